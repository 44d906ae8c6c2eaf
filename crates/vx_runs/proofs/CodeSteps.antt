-- Codes as cells.
use Rattle.std.proofs.Common.{◌≡◌, ℕ, ◌&&◌, Bool, true, List, [], ◌∷◌, map, refl, ap, ◌∙◌, append_assoc}
use Rattle.std.proofs.lemmas.List.{append-nil, map_push, map_more}
use Rattle.vx_model.specs.Words.{all_by}
use Rattle.vx_model.specs.CellData.{fits}
use Rattle.vx_rules.specs.Columns.{offset_cell}
use Rattle.vx_rules.specs.Runs.{DictOptions, code_type}
use Rattle.vx_runs.specs.Cutting.{is_code_of}

pub codes_fit : (o : DictOptions) (codes : List ℕ) → all_by (fits (code_type o)) (map offset_cell codes) ≡ all_by (is_code_of o) codes
codes_fit o [] = refl
codes_fit o (n ∷ ns) = ap (λ b. is_code_of o n && b) (codes_fit o ns)

pub ruleset code_rules = (append_assoc, append-nil, map_push, map_more)
