-- What stands for tables, for list nodes of other types, and for dictionary nodes of types that no dictionary can hold.
use Rattle.std.specs.Prelude.{ℕ, suc, Bool, true, false}
use Rattle.vx_model.specs.Ty.{Ty, boolean, primitive, utf8, binary, list, struct, extension}
use Rattle.vx_strategy_spec.specs.StrategyData.{StrategyData, flat, chunked, grouped, compressed, coded, zoned, structured, listed, tabled}
use Rattle.vx_strategy_spec.specs.Dispatch.{dispatch}

-- what a table stands for at a type; what a list node gives another type to, and a dictionary node one that it can't hold
abbrev pub further : StrategyData → Ty → StrategyData
further (tabled v l ws lists wraps) t = dispatch (tabled v l ws lists wraps) t
further (listed e o v f) (list t n) = listed e o v f
further (listed e o v f) (boolean n) = f
further (listed e o v f) (primitive p n) = f
further (listed e o v f) (utf8 n) = f
further (listed e o v f) (binary n) = f
further (listed e o v f) (struct fs n) = f
further (listed e o v f) (extension tag t) = f
further (flat o) t = flat o
further (chunked w) t = chunked w
further (grouped g w) t = grouped g w
further (compressed which room w) t = compressed which room w
further (coded o c v f) (boolean n) = f
further (coded o c v f) (primitive p n) = coded o c v f
further (coded o c v f) (utf8 n) = coded o c v f
further (coded o c v f) (binary n) = coded o c v f
further (coded o c v f) (list t n) = f
further (coded o c v f) (struct fs n) = f
further (coded o c v f) (extension tag t) = f
further (zoned o w stats) t = zoned o w stats
further (structured v d ws) t = structured v d ws

-- whether another strategy stands for it
abbrev pub passes_on : StrategyData → Ty → Bool
passes_on (tabled v l ws lists wraps) t = true
passes_on (listed e o v f) (list t n) = false
passes_on (listed e o v f) (boolean n) = true
passes_on (listed e o v f) (primitive p n) = true
passes_on (listed e o v f) (utf8 n) = true
passes_on (listed e o v f) (binary n) = true
passes_on (listed e o v f) (struct fs n) = true
passes_on (listed e o v f) (extension tag t) = true
passes_on (flat o) t = false
passes_on (chunked w) t = false
passes_on (grouped g w) t = false
passes_on (compressed which room w) t = false
passes_on (coded o c v f) (boolean n) = true
passes_on (coded o c v f) (primitive p n) = false
passes_on (coded o c v f) (utf8 n) = false
passes_on (coded o c v f) (binary n) = false
passes_on (coded o c v f) (list t n) = true
passes_on (coded o c v f) (struct fs n) = true
passes_on (coded o c v f) (extension tag t) = true
passes_on (zoned o w stats) t = false
passes_on (structured v d ws) t = false

-- the last of these, for which no other stands
abbrev pub settled : StrategyData → Ty → StrategyData
settled (tabled v l ws lists wraps) (struct fs n) = dispatch (tabled v l ws lists wraps) (struct fs n)
settled (tabled v l ws true wraps) (list t n) = dispatch (tabled v l ws true wraps) (list t n)
settled (tabled v l ws false wraps) (list t n) = settled l (list t n)
settled (tabled v l ws lists wraps) (boolean n) = settled l (boolean n)
settled (tabled v l ws lists wraps) (primitive p n) = settled l (primitive p n)
settled (tabled v l ws lists wraps) (utf8 n) = settled l (utf8 n)
settled (tabled v l ws lists wraps) (binary n) = settled l (binary n)
settled (tabled v l ws lists wraps) (extension tag t) = settled l (extension tag t)
settled (listed e o v f) (list t n) = listed e o v f
settled (listed e o v f) (boolean n) = settled f (boolean n)
settled (listed e o v f) (primitive p n) = settled f (primitive p n)
settled (listed e o v f) (utf8 n) = settled f (utf8 n)
settled (listed e o v f) (binary n) = settled f (binary n)
settled (listed e o v f) (struct fs n) = settled f (struct fs n)
settled (listed e o v f) (extension tag t) = settled f (extension tag t)
settled (flat o) t = flat o
settled (chunked w) t = chunked w
settled (grouped g w) t = grouped g w
settled (compressed which room w) t = compressed which room w
settled (coded o c v f) (boolean n) = settled f (boolean n)
settled (coded o c v f) (primitive p n) = coded o c v f
settled (coded o c v f) (utf8 n) = coded o c v f
settled (coded o c v f) (binary n) = coded o c v f
settled (coded o c v f) (list t n) = settled f (list t n)
settled (coded o c v f) (struct fs n) = settled f (struct fs n)
settled (coded o c v f) (extension tag t) = settled f (extension tag t)
settled (zoned o w stats) t = zoned o w stats
settled (structured v d ws) t = structured v d ws

-- how many stand one in the other at most
abbrev pub nested : StrategyData → ℕ
nested (tabled v l ws lists wraps) = suc (suc (nested l))
nested (listed e o v f) = suc (nested f)
nested (flat o) = 0
nested (chunked w) = 0
nested (grouped g w) = 0
nested (compressed which room w) = 0
nested (coded o c v f) = suc (nested f)
nested (zoned o w stats) = 0
nested (structured v d ws) = 0
