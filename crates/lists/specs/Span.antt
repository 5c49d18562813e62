-- The struct that the code hands back, as the record of the definitions.
use Rattle.model.specs.Lists as model
use Rattle.lists.specs.declared.Span as declared

-- where a part stands, and its length: the same two numbers
unfoldable pub span_says : declared.Span → model.Span
span_says s = record { start = s.start; size = s.size }
