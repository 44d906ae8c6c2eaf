-- How much starts with a form.
use Rattle.std.specs.Prelude.{ℕ, ◌+◌}
use Rattle.vx_machine_turns.specs.Forms.{Form, Forms, flat_form, chunked_form, grouped_form, compressed_form, dict_form, zoned_form, no_struct_form, struct_form, list_form, no_forms, form_then}

-- two more than of each column, or only child, that starts with it
abbrev mutual
  pub weight : Form → ℕ
  weight (struct_form fs n name v ks) = 2 + (weight v + weights ks)
  weight (list_form t n es os v) = 2 + (weight es + (weight os + weight v))
  weight (flat_form o t) = 1
  weight (chunked_form t k) = 1
  weight (grouped_form g t k) = 2 + weight k
  weight (compressed_form which room t k) = 4 + weight k
  weight (dict_form o t c v f) = 1
  weight (zoned_form o t k stats) = 2 + weight k
  weight (no_struct_form t) = 1

  pub weights : Forms → ℕ
  weights no_forms = 0
  weights (form_then f fs) = weight f + weights fs
