-- The columns of a chunk, and why it isn't split.
use Rattle.std.proofs.Common.{◌≡◌, ◌↔◌, not, Bool, true, false, List, length, refl, sym, ap, subst, ◌∙◌, arith}
use Rattle.std.proofs.lemmas.Bool.{true≢false}
use Rattle.vx_model.specs.Ty.{Ty, Tys, fields_in, boolean, primitive, utf8, binary, list, struct, extension, nullable, is_struct, ty_eq}
use Rattle.vx_model.specs.TyLaws.{ty_eq_decides}
use Rattle.vx_model.specs.ChunkData.{ChunkData, piece_type, is_sound}
use Rattle.vx_layout_spec.specs.Parts.{field_pieces}
use Rattle.vx_chunk_cells.specs.Parts.{struct_fields}
use Rattle.vx_rules.specs.Columns.{struct_columns}
use Rattle.vx_react.proofs.Widths.{fields_count}
use Rattle.vx_split.specs.declared.error.SplitError.{SplitError}
use Rattle.vx_split.specs.declared.error.SplitError.TheVariants as split
use Rattle.vx_machine_state.specs.Acts.{columns_in, column_count}
use Rattle.vx_write_answer.specs.Causes.{of_split}
use Rattle.vx_write_answer.specs.declared.error.WriteError.{WriteError}
use Rattle.vx_write_answer.specs.declared.error.WriteError.TheVariants.{OutOfMemory}

pub columns_are : (s t : Ty) (p : ChunkData) (xs : List ChunkData) → s ≡ t → is_struct t ≡ true → xs ≡ struct_columns (struct_fields s) (nullable s) p → xs ≡ columns_in t p
columns_are s (struct fs n) p xs is k e = e ∙ ap (λ z. struct_columns (struct_fields z) (nullable z) p) is
columns_are s (boolean n) p xs is k e = absurd (true≢false (sym k))
columns_are s (primitive q n) p xs is k e = absurd (true≢false (sym k))
columns_are s (utf8 n) p xs is k e = absurd (true≢false (sym k))
columns_are s (binary n) p xs is k e = absurd (true≢false (sym k))
columns_are s (list u n) p xs is k e = absurd (true≢false (sym k))
columns_are s (extension tag u) p xs is k e = absurd (true≢false (sym k))

columns_count : (fs : Tys) (m : Bool) (p : ChunkData) → length (field_pieces fs p) ≡ length (fields_in fs) → length (struct_columns fs m p) ≡ column_count (struct fs m)
columns_count fs true p h = omega (arith, h)
columns_count fs false p h = omega (arith, h)

-- as many as the type's columns
pub columns_counted : (s t : Ty) (p : ChunkData) (xs : List ChunkData) → s ≡ t → is_struct t ≡ true → piece_type p ≡ t → is_sound p ≡ true → xs ≡ struct_columns (struct_fields s) (nullable s) p
    → length xs ≡ column_count t
columns_counted s (struct fs n) p xs is k y h e =
    ap length (columns_are s (struct fs n) p xs is k e) ∙ columns_count fs n p (fields_count fs n p y h)
columns_counted s (boolean n) p xs is k y h e = absurd (true≢false (sym k))
columns_counted s (primitive q n) p xs is k y h e = absurd (true≢false (sym k))
columns_counted s (utf8 n) p xs is k y h e = absurd (true≢false (sym k))
columns_counted s (binary n) p xs is k y h e = absurd (true≢false (sym k))
columns_counted s (list u n) p xs is k y h e = absurd (true≢false (sym k))
columns_counted s (extension tag u) p xs is k y h e = absurd (true≢false (sym k))

pub typed_eq : (t u v : Ty) (b : Bool) → ((b ≡ true) ↔ (t ≡ u)) → u ≡ v → b ≡ true → ty_eq t v ≡ true
typed_eq t u v b w is h = (ty_eq_decides t v).1 (w.0 h ∙ is)

misfit : (t v : Ty) (e : Bool) → ty_eq t v ≡ e → (t ≡ v → ⊥) → not e ≡ true
misfit t v true h n = absurd (n ((ty_eq_decides t v).0 h))
misfit t v false h n = refl

pub misfit_eq : (t u v : Ty) (b : Bool) → ((b ≡ true) ↔ (t ≡ u)) → u ≡ v → b ≡ false → not (ty_eq t v) ≡ true
misfit_eq t u v b w is h = misfit t v (ty_eq t v) refl (λ e. true≢false (sym (w.1 (e ∙ sym is)) ∙ h))

-- a test against one type, where another is the same
pub misfit_told : (t u v : Ty) (b : Bool) → ((b ≡ true) ↔ (t ≡ u)) → ty_eq v u ≡ true → not b ≡ not (ty_eq t v)
misfit_told t u v true w e = ap not (sym ((ty_eq_decides t v).1 (w.0 refl ∙ sym ((ty_eq_decides v u).0 e))))
misfit_told t u v false w e = sym (misfit_eq t u v false w (sym ((ty_eq_decides v u).0 e)) refl)

pub split_memory : (P : WriteError → Type 0) (e : SplitError) → P OutOfMemory → e ≡ split.OutOfMemory → P (of_split e)
split_memory P e p is = subst (λ x. P (of_split x)) (sym is) p
