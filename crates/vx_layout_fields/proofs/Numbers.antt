-- Each number that a mask gives is that of a field.
use Rattle.std.proofs.Common.{◌≡◌, ℕ, ◌<◌, Bool, true, false, List, [], ◌∷◌, length, get_or, Option, Some, None, Result, Ok, Err, refl, ◌∙◌, subst, arith}
use Rattle.std.specs.Prelude.{if◌then◌else◌, IfOk}
use Rattle.std.specs.Global.{Vec}
use Rattle.std.specs.List.{list_any, position, range_with_len}
use Rattle.std.proofs.lemmas.List.Elements.{All-nil, All-cons, All-map, All-from_get_or}
use Rattle.std.proofs.lemmas.List.FromFn.{length-range_with_len, get_or-range_with_len}
use Rattle.std.proofs.lemmas.List.Quantifiers.{position-Some}
use Rattle.vx_model.specs.Ty.{Named}
use Rattle.vx_field_path.specs.declared.mask.FieldMask.{FieldMask}
use Rattle.vx_field_path.specs.declared.mask.FieldMask.TheVariants.{All, Prefix, Exact}
use Rattle.vx_field_path.specs.Masks.{below, takes_all}
use Rattle.vx_layout_spec.specs.Refusal.{Refusal}
use Rattle.vx_session.specs.Made.{◌>>=◌}
use Rattle.vx_layout_tree.specs.Views.{Gives}
use Rattle.vx_layout_tree.specs.declared.error.LayoutError.{LayoutError}
use Rattle.vx_layout_fields.specs.Matching.{Match, is_named, matched, match_of, with_match, each_match, all_of, every_field, matching}
use Rattle.vx_layout_fields.specs.Numbers.{AreNumbers}
use Rattle.vx_layout_fields.specs.Views.{matches_in}

abbrev IsNumber : List Named → Match → Type 0
IsNumber fields m = m.1 < length fields

number_in : (name : List ℕ) (fields : List Named) (n : ℕ) → position (is_named name) fields ≡ Some n → n < length fields
number_in name [] n at = absurd (cc at)
number_in name (f ∷ fs) n at = (position-Some (is_named name) (f ∷ fs) n f at).0

match_at : (fields : List Named) (name : List ℕ) (rest : FieldMask) (o : Option ℕ) (x : Match) → position (is_named name) fields ≡ o → matched name rest o ≡ Ok (Some x) → IsNumber fields x
match_at fields name rest None x at is = absurd (cc is)
match_at fields name rest (Some n) x at is = let same : (rest, n) ≡ x = cc is in subst (IsNumber fields) same (number_in name fields n at)

match_in : (fields : List Named) (m : FieldMask) (x : Match) → match_of fields m ≡ Ok (Some x) → IsNumber fields x
match_in fields All x is = absurd (cc is)
match_in fields (Prefix []) x is = absurd (cc is)
match_in fields (Prefix (a ∷ p)) x is = match_at fields a (below p) (position (is_named a) fields) x refl is
match_in fields (Exact []) x is = absurd (cc is)
match_in fields (Exact (a ∷ p)) x is = match_at fields a (Exact p) (position (is_named a) fields) x refl is

more_in : (fields : List Named) (m : FieldMask) (ms : List FieldMask) (xs : List Match) → ((ys : List Match) → each_match fields ms ≡ Ok ys → AreNumbers fields ys)
    → (r : Result (Option Match) Refusal) → match_of fields m ≡ r → (o : Result (List Match) Refusal) → each_match fields ms ≡ o → (r >>= λ one. o >>= λ others. Ok (with_match one others)) ≡ Ok xs → AreNumbers fields xs
more_in fields m ms xs rest (Err x) at o so is = absurd (cc is)
more_in fields m ms xs rest (Ok one) at (Err x) so is = absurd (cc is)
more_in fields m ms xs rest (Ok None) at (Ok others) so is = rest xs (so ∙ is)
more_in fields m ms xs rest (Ok (Some one)) at (Ok others) so is =
    let same : one ∷ others ≡ xs = cc is in
    subst (AreNumbers fields) same (All-cons (IsNumber fields) one others (match_in fields m one at) (rest others so))

each_in : (fields : List Named) (ms : List FieldMask) (xs : List Match) → each_match fields ms ≡ Ok xs → AreNumbers fields xs
each_in fields [] xs is = let same : [] ≡ xs = cc is in subst (AreNumbers fields) same (All-nil (IsNumber fields))
each_in fields (m ∷ ms) xs is = more_in fields m ms xs (λ ys. each_in fields ms ys) (match_of fields m) refl (each_match fields ms) refl is

below_count : (n i : ℕ) → i < length (range_with_len 0 n) → get_or (range_with_len 0 n) i 0 < n
below_count n i lt =
    let within : i < n = omega (arith, lt, length-range_with_len 0 n) in
    omega (arith, within, get_or-range_with_len 0 n i 0 within)

every_in : (fields : List Named) → AreNumbers fields (every_field fields)
every_in fields =
    All-map (IsNumber fields) all_of (range_with_len 0 (length fields))
    (All-from_get_or (λ i. i < length fields) (range_with_len 0 (length fields)) 0 (λ i lt. below_count (length fields) i lt))

matching_in : (fields : List Named) (ms : List FieldMask) (xs : List Match) → matching fields ms ≡ Ok xs → AreNumbers fields xs
matching_in fields ms xs is = go (list_any takes_all ms) is
  where
    go : (b : Bool) → (if b then Ok (every_field fields) else each_match fields ms) ≡ Ok xs → AreNumbers fields xs
    go true e = let same : every_field fields ≡ xs = cc e in subst (AreNumbers fields) same (every_in fields)
    go false e = each_in fields ms xs e

pub gives_numbers : (fields : List Named) (ms : List FieldMask) (r : Result (Vec (FieldMask × ℕ)) LayoutError) → Gives matches_in r (matching fields ms) → IfOk r (λ v. AreNumbers fields v.items)
gives_numbers fields ms (Ok v) h = matching_in fields ms v.items h
gives_numbers fields ms (Err e) h = tt
