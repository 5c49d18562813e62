-- `Generator::read_member` meets its contract: a tree stands at the node, so it is one of the 48, and its list is there. Assumes nothing.
use Rattle.reader.proofs.Members.{inside, list-there}
use Rattle.reader.proofs.generator.Generator.read_member.Goals as goal

pub bounds-self-node : goal.bounds-self-node
bounds-self-node c = inside c.args.self.now.ready _ c.requires.standing

pub read_member-requires-clause-by_index : goal.read_member-requires-clause-by_index
read_member-requires-clause-by_index c = (λ k e. list-there c.args.self.now.ready _ k e c.requires.standing, c.requires.to_le_top)
