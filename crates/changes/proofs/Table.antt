-- 16 through the whole call, and ahead of and behind it 15 and 6, computed: rows of 65,536 numbers, which `model`'s own table leaves to
-- this one, since every edit of `model` computes that again. Each side computes, so the proof is `refl`. Assumes nothing.
use mathlib.Core.Path.{◌≡◌, refl}
use mathlib.Core.List.{List, [], ◌∷◌}
use Prim.Native.Nat.{ℕ, zero, suc}
use Rattle.model.specs.Outcome.{sent, over}
use Rattle.model.specs.Lists
use Rattle.model.specs.Lists.{lend}
use Rattle.model.specs.Expression.{size, sizes, count}
use Rattle.model.specs.Sets
use Rattle.model.specs.Run.{source_of}
use Rattle.model.specs.Fields
use Rattle.model.specs.Forms
use Rattle.model.specs.Update
use Rattle.model.specs.Update.{change, update}
use Rattle.model.specs.RequestTwo.{every_bit}

-- so many numbers from one on
unfoldable pub ramp : ℕ → ℕ → List ℕ
ramp zero from = []
ramp (suc n) from = from ∷ ramp n (suc from)

-- list 0 is 0 alone, list 1 the 65,535 numbers behind it; the expression is list 0, and its members stand in a row of two
abbrev pub told : ℕ → ℕ → ℕ → ℕ
told number add count = (update (lend (ramp 65536 0) (1 ∷ 65536 ∷ []) every_bit) (0x00 ∷ []) (change 1 number add) (0 ∷ 60 ∷ []) count).number

-- no place is left behind the last end, so 6 applies to each that is added: 17, then 15, then 16 come ahead of it
pub longest : told 4294967295 1 2 ∷ told 7 1 1 ∷ told 4294967295 1 1 ∷ [] ≡ 17 ∷ 15 ∷ 16 ∷ []
unfolding ramp update sent source_of size count Update.update_of Update.fits Update.has_room Update.is_new Update.shows Update.same Update.new_lists Update.new_list Sets.all_numbers Sets.member Sets.among Sets.members Sets.select Sets.insert Lists.count_holds Lists.lists_of Lists.lists_from Lists.part Lists.ends_hold Lists.delivered Lists.word_holds Lists.all_ascending Lists.ascending Lists.rises Fields.take_field Fields.bits Fields.field Fields.value Fields.only_fill Forms.read_packed Forms.there Forms.read_tree Forms.take_node Forms.take_kind Forms.take_rest Forms.read_below Forms.operator Forms.read_members Fields.zeros Fields.bytes Fields.fill Forms.node_of Forms.nodes over sizes Update.remove
longest = refl
