-- A dictionary node, as its task has it in mind.
use Rattle.std.specs.Prelude.{Bool, []}
use Rattle.vx_model.specs.Ty.{Ty}
use Rattle.vx_path.specs.Path.{root_eof}
use Rattle.vx_rules.specs.Runs.{DictOptions}
use Rattle.vx_machine_turns.specs.Forms.{Form}
use Rattle.vx_machine_turns.specs.Locals.{DictNode}

pub record Coder : Type 0 where
  -- whether a nullable struct stands above
  pub mark : Bool
  pub options : DictOptions
  pub type : Ty
  pub codes : Form
  pub values : Form
  pub fallback : Form

abbrev pub coder_of : DictNode → Coder
coder_of n = record { mark = n.mark; options = n.options; type = n.type; codes = n.codes; values = n.values; fallback = n.fallback }

-- a node that is this but for its task's name and its pointer, which no run asks for
abbrev pub node_of : Coder → DictNode
node_of n = record { name = []; mark = n.mark; options = n.options; type = n.type; codes = n.codes; values = n.values; fallback = n.fallback; eof = root_eof }
