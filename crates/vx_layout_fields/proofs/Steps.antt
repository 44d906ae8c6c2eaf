-- What masks match among fields, step by step.
use Rattle.std.proofs.Common.{◌≡◌, ℕ, ◌+◌, ◌<◌, ◌≤◌, true, false, bytes_eq, List, [], ◌∷◌, ◌++◌, length, get_or, drop, map, Option, Some, None, Result, Ok, Err, refl, sym, ◌∙◌, ap, arith}
use Rattle.std.specs.List.{list_any, position, position_from, range_with_len}
use Rattle.std.proofs.lemmas.List.{drop_more, drop_all, length-map, append-nil, append_assoc}
use Rattle.std.proofs.lemmas.List.FromFn.{map-range_with_len_more}
use Rattle.std.proofs.lemmas.Iterator.Adapters.{position_from-zero}
use Rattle.vx_model.specs.Ty.{Named}
use Rattle.vx_model.specs.TyView.{field_ty}
use Rattle.vx_model.specs.declared.dtype.StructField.{StructField}
use Rattle.vx_model.proofs.Views.{field_ty_is}
use Rattle.vx_field_path.specs.declared.mask.FieldMask.{FieldMask}
use Rattle.vx_field_path.specs.declared.mask.FieldMask.TheVariants.{All, Prefix, Exact}
use Rattle.vx_field_path.specs.Masks.{below, takes_all, starting, mask_stepped}
use Rattle.vx_layout_spec.specs.Refusal.{Refusal, field_not_found}
use Rattle.vx_session.specs.Made.{◌>>=◌}
use Rattle.vx_layout_tree.specs.Views.{Fails}
use Rattle.vx_layout_tree.specs.declared.error.LayoutError.{LayoutError}
use Rattle.vx_layout_tree.proofs.KidSteps.{fails_by}
use Rattle.vx_layout_fields.specs.Matching.{Match, is_named, matched, match_of, with_match, each_match, all_of, every_field}

-- ---- whether one matches all

pub any_here : (ms : List FieldMask) (i : ℕ) (m : FieldMask) → i < length ms → m ≡ get_or ms i m → takes_all m ≡ true → list_any takes_all (drop i ms) ≡ true
any_here ms i m lt is all = rw (drop_more ms i m lt, ← is, all) refl

pub any_later : (ms : List FieldMask) (i : ℕ) (m : FieldMask) → i < length ms → m ≡ get_or ms i m → takes_all m ≡ false → list_any takes_all (drop i ms) ≡ list_any takes_all (drop (i + 1) ms)
any_later ms i m lt is not_all = rw (drop_more ms i m lt, ← is, not_all) refl

pub ruleset any_rules = (any_here, any_later, drop_all)

-- ---- every field

pub every_more : (i : ℕ) → map all_of (range_with_len 0 (i + 1)) ≡ map all_of (range_with_len 0 i) ++ (All, i) ∷ []
every_more i = map-range_with_len_more all_of 0 i i (omega arith)

pub every_end : (fs : List StructField) → map all_of (range_with_len 0 (length fs)) ≡ every_field (map field_ty fs)
every_end fs = rw length-map refl

pub ruleset every_rules = (every_more, every_end)

-- ---- the number of a field

pub number_start : (name : List ℕ) (fs : List StructField) → position_from (is_named name) 0 (map field_ty fs) ≡ position (is_named name) (map field_ty fs)
number_start name fs = sym (position_from-zero (is_named name) (map field_ty fs))

pub number_here : (name : List ℕ) (fs : List StructField) (i : ℕ) (f : StructField) → i < length fs → f ≡ get_or fs i f → bytes_eq f.name name ≡ true
    → position_from (is_named name) i (map field_ty (drop i fs)) ≡ Some i
number_here name fs i f lt is same = rw (drop_more fs i f lt, ← is, field_ty_is f, same) refl

pub number_later : (name : List ℕ) (fs : List StructField) (i : ℕ) (f : StructField) → i < length fs → f ≡ get_or fs i f → bytes_eq f.name name ≡ false
    → position_from (is_named name) i (map field_ty (drop i fs)) ≡ position_from (is_named name) (i + 1) (map field_ty (drop (i + 1) fs))
number_later name fs i f lt is other = rw (drop_more fs i f lt, ← is, field_ty_is f, other) refl

pub ruleset number_rules = (number_start, number_here, number_later, drop_all)

-- ---- one mask

pub not_started : (fields : List Named) (m : FieldMask) → None ≡ starting m → match_of fields m ≡ Ok None
not_started fields All e = refl
not_started fields (Prefix []) e = refl
not_started fields (Prefix (a ∷ p)) e = cc e
not_started fields (Exact []) e = refl
not_started fields (Exact (a ∷ p)) e = cc e

at_name : (fields : List Named) (m : FieldMask) (name : List ℕ) → Some name ≡ starting m → (rest : FieldMask) × (Some rest ≡ mask_stepped m) × (match_of fields m ≡ matched name rest (position (is_named name) fields))
at_name fields All name e = cc e
at_name fields (Prefix []) name e = cc e
at_name fields (Prefix (a ∷ p)) name e = let same : name ≡ a = cc e in (below p, refl, rw same refl)
at_name fields (Exact []) name e = cc e
at_name fields (Exact (a ∷ p)) name e = let same : name ≡ a = cc e in (Exact p, refl, rw same refl)

pub no_field : (fields : List Named) (m : FieldMask) (name : List ℕ) → Some name ≡ starting m → None ≡ position (is_named name) fields → match_of fields m ≡ Err (field_not_found name)
no_field fields m name starts none = (at_name fields m name starts).2 ∙ rw (← none) refl

pub a_field : (fields : List Named) (m rest : FieldMask) (name : List ℕ) (number : ℕ) → Some name ≡ starting m → Some number ≡ position (is_named name) fields → Some rest ≡ mask_stepped m
    → match_of fields m ≡ Ok (Some (rest, number))
a_field fields m rest name number starts some steps =
    let at = at_name fields m name starts in
    let same : at.0 ≡ rest = cc (at.1, steps) in
    at.2 ∙ rw (← some, same) refl

pub no_step : (fields : List Named) (m : FieldMask) (name : List ℕ) → Some name ≡ starting m → None ≡ mask_stepped m → match_of fields m ≡ Ok None
no_step fields m name starts none = let at = at_name fields m name starts in cc (at.1, none)

pub ruleset match_rules = (not_started, no_field, a_field, no_step)

-- ---- each mask

-- these in front of the others
abbrev pub onto : List Match → Result (List Match) Refusal → Result (List Match) Refusal
onto front others = others >>= λ later. Ok (front ++ later)

pub onto_none : (r : Result (List Match) Refusal) → onto [] r ≡ r
onto_none (Ok later) = refl
onto_none (Err x) = refl

drop_matched : (fields : List Named) (ms : List FieldMask) (i : ℕ) (m : FieldMask) (o : Option Match) → i < length ms → m ≡ get_or ms i m → match_of fields m ≡ Ok o
    → each_match fields (drop i ms) ≡ (each_match fields (drop (i + 1) ms) >>= λ others. Ok (with_match o others))
drop_matched fields ms i m o lt is at = rw (drop_more ms i m lt, ← is, at) refl

with_one : (front : List Match) (one : Match) (r : Result (List Match) Refusal) → onto (front ++ one ∷ []) r ≡ onto front (r >>= λ others. Ok (one ∷ others))
with_one front one (Ok later) = ap Ok (append_assoc front (one ∷ []) later)
with_one front one (Err x) = refl

with_none : (front : List Match) (r : Result (List Match) Refusal) → onto front r ≡ onto front (r >>= λ others. Ok others)
with_none front (Ok later) = refl
with_none front (Err x) = refl

pub match_there : (fields : List Named) (ms : List FieldMask) (i : ℕ) (m : FieldMask) (one : Match) (front more : List Match) (all : Result (List Match) Refusal)
    → i < length ms → m ≡ get_or ms i m → match_of fields m ≡ Ok (Some one) → more ≡ front ++ one ∷ [] → onto front (each_match fields (drop i ms)) ≡ all
    → onto more (each_match fields (drop (i + 1) ms)) ≡ all
match_there fields ms i m one front more all lt is at grown so_far =
    rw grown (with_one front one (each_match fields (drop (i + 1) ms)) ∙ sym (ap (onto front) (drop_matched fields ms i m (Some one) lt is at)) ∙ so_far)

pub no_match : (fields : List Named) (ms : List FieldMask) (i : ℕ) (m : FieldMask) (front : List Match) (all : Result (List Match) Refusal)
    → i < length ms → m ≡ get_or ms i m → match_of fields m ≡ Ok None → onto front (each_match fields (drop i ms)) ≡ all
    → onto front (each_match fields (drop (i + 1) ms)) ≡ all
no_match fields ms i m front all lt is at so_far =
    with_none front (each_match fields (drop (i + 1) ms)) ∙ sym (ap (onto front) (drop_matched fields ms i m None lt is at)) ∙ so_far

pub match_fails : (e : LayoutError) (fields : List Named) (ms : List FieldMask) (i : ℕ) (m : FieldMask) (front : List Match) (all : Result (List Match) Refusal)
    → i < length ms → m ≡ get_or ms i m → onto front (each_match fields (drop i ms)) ≡ all → Fails e (match_of fields m) → Fails e all
match_fails e fields ms i m front all lt is so_far h = fails_by e (match_of fields m) all (λ x refused. sym so_far ∙ rw (drop_more ms i m lt, ← is, refused) refl) h

pub all_matched : (fields : List Named) (ms : List FieldMask) (i : ℕ) (front : List Match) (all : Result (List Match) Refusal) → length ms ≤ i → onto front (each_match fields (drop i ms)) ≡ all
    → all ≡ Ok front
all_matched fields ms i front all le so_far = sym so_far ∙ rw (drop_all i ms le) (ap Ok (append-nil front))

pub ruleset each_rules = (onto_none, match_there, no_match, match_fails, all_matched)
