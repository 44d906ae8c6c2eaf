-- Costs of cells of types that aren't primitive.
use Rattle.std.proofs.Common.{◌≡◌, ℕ, Bool, List, refl}
use Rattle.vx_model.specs.Ty.{Ty, Tys, boolean, utf8, binary, list, struct, extension}
use Rattle.vx_model.specs.CellData.{CellData, text_cell, bytes_cell}
use Rattle.vx_rules.specs.Runs.{cell_cost}
use Rattle.vx_runs.specs.Cutting.{other_cost}

pub cost_boolean : (n : Bool) (c : CellData) → cell_cost (boolean n) c ≡ other_cost c
cost_boolean n (text_cell s) = refl
cost_boolean n (bytes_cell s) = refl
cost_boolean n c = refl

pub cost_utf8 : (n : Bool) (c : CellData) → cell_cost (utf8 n) c ≡ other_cost c
cost_utf8 n (text_cell s) = refl
cost_utf8 n (bytes_cell s) = refl
cost_utf8 n c = refl

pub cost_binary : (n : Bool) (c : CellData) → cell_cost (binary n) c ≡ other_cost c
cost_binary n (text_cell s) = refl
cost_binary n (bytes_cell s) = refl
cost_binary n c = refl

pub cost_list : (t : Ty) (n : Bool) (c : CellData) → cell_cost (list t n) c ≡ other_cost c
cost_list t n (text_cell s) = refl
cost_list t n (bytes_cell s) = refl
cost_list t n c = refl

pub cost_struct : (fs : Tys) (n : Bool) (c : CellData) → cell_cost (struct fs n) c ≡ other_cost c
cost_struct fs n (text_cell s) = refl
cost_struct fs n (bytes_cell s) = refl
cost_struct fs n c = refl

pub cost_extension : (tag : List ℕ) (t : Ty) (c : CellData) → cell_cost (extension tag t) c ≡ other_cost c
cost_extension tag t (text_cell s) = refl
cost_extension tag t (bytes_cell s) = refl
cost_extension tag t c = refl

pub ruleset cost_rules = (cost_boolean, cost_utf8, cost_binary, cost_list, cost_struct, cost_extension)
