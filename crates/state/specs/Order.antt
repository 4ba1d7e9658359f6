-- The order of contexts.
use Rattle.std.specs.Prelude.{Bool, ltb}
use Rattle.model.specs.State.{Context}

-- x comes before y: its number is lower
unfoldable pub lower_context : Context → Context → Bool
lower_context x y = ltb x.cn y.cn
