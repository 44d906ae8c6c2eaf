-- A bounded maximum is at least every value, a bounded minimum at most.
use Rattle.std.proofs.Common.{◌≡◌, ℕ, suc, Bool, true, false, List, [], ◌∷◌, length, take, Option, Some, None, refl, sym, ◌∙◌, subst, ⊎_elim}
use Rattle.std.specs.Prelude.{if◌then◌else◌, nat_le}
use Rattle.std.specs.Str.{is_utf8, chars, encode_utf8_all}
use Rattle.std.proofs.lemmas.Bool.{true≢false}
use Rattle.std.proofs.lemmas.Str.{encodes-chars, IsUtf8-from_is_utf8}
use Rattle.vx_model.specs.ValueData.{ValueData, null_value, bool_value, int_value, text_value, bytes_value, list_value, struct_value}
use Rattle.vx_path.specs.Lists.{In}
use Rattle.vx_path.specs.Path.{path_le}
use Rattle.vx_path.proofs.Path.{path_le-refl}
use Rattle.vx_zone_spec.specs.ValueOrder.{value_le, greatest, least}
use Rattle.vx_zone_spec.specs.Bounds.{upper_bound, lower_bound, raised_last, byte_rises, char_rises, next_char, front_chars, bytes_or_null, text_or_null}
use Rattle.vx_zone_spec.specs.Statements.{BoundsHold}
use Rattle.vx_zone_spec.proofs.Sorts.{Sort, truths, numbers, texts, blobs, nested, has_sort, AllSort, Literal, sort_of, order_sort, values_sort}
use Rattle.vx_zone_spec.proofs.OrderLaws.{le_trans, literal_refl, Under, Over, greatest_top, least_bottom}
use Rattle.vx_zone_spec.proofs.TextOrder.{bytes_below, chars_below, front_below, take_below}

upper_bytes : (n : ℕ) (t : List ℕ) (o : Option (List ℕ)) → raised_last byte_rises suc (take n t) ≡ o → (bytes_or_null o ≡ null_value → ⊥) → value_le (bytes_value t) (bytes_or_null o) ≡ true
upper_bytes n t None e h = absurd (h refl)
upper_bytes n t (Some r) e h = bytes_below n t r e

upper_text : (n : ℕ) (t : List ℕ) → is_utf8 t ≡ true → (o : Option (List ℕ)) → raised_last char_rises next_char (front_chars n (chars t)) ≡ o → (text_or_null o ≡ null_value → ⊥) → value_le (text_value t) (text_or_null o) ≡ true
upper_text n t u None e h = absurd (h refl)
upper_text n t u (Some r) e h = subst (λ z. path_le z (encode_utf8_all r) ≡ true) (encodes-chars t (IsUtf8-from_is_utf8 t u)) (chars_below n (chars t) r e)

upper_at : (s : Sort) (n : ℕ) (g : ValueData) → Literal s g → has_sort s g ≡ true → (upper_bound n g ≡ null_value → ⊥) → value_le g (upper_bound n g) ≡ true
upper_at truths n (bool_value b) l k h = literal_refl truths (bool_value b) l
upper_at numbers n (int_value b) l k h = literal_refl numbers (int_value b) l
upper_at texts n (text_value t) l k h = go (nat_le (length t) n) h
  where
    go : (b : Bool) → ((if b then text_value t else text_or_null (raised_last char_rises next_char (front_chars n (chars t)))) ≡ null_value → ⊥)
        → value_le (text_value t) (if b then text_value t else text_or_null (raised_last char_rises next_char (front_chars n (chars t)))) ≡ true
    go true h = path_le-refl t
    go false h = upper_text n t k (raised_last char_rises next_char (front_chars n (chars t))) refl h
upper_at blobs n (bytes_value t) l k h = go (nat_le (length t) n) h
  where
    go : (b : Bool) → ((if b then bytes_value t else bytes_or_null (raised_last byte_rises suc (take n t))) ≡ null_value → ⊥)
        → value_le (bytes_value t) (if b then bytes_value t else bytes_or_null (raised_last byte_rises suc (take n t))) ≡ true
    go true h = path_le-refl t
    go false h = upper_bytes n t (raised_last byte_rises suc (take n t)) refl h
upper_at s n g l k h = absurd l

lower_at : (s : Sort) (n : ℕ) (g : ValueData) → Literal s g → has_sort s g ≡ true → value_le (lower_bound n g) g ≡ true
lower_at truths n (bool_value b) l k = literal_refl truths (bool_value b) l
lower_at numbers n (int_value b) l k = literal_refl numbers (int_value b) l
lower_at texts n (text_value t) l k = go (nat_le (length t) n)
  where
    go : (b : Bool) → value_le (if b then text_value t else text_value (encode_utf8_all (front_chars n (chars t)))) (text_value t) ≡ true
    go true = path_le-refl t
    go false = subst (λ z. path_le (encode_utf8_all (front_chars n (chars t))) z ≡ true) (encodes-chars t (IsUtf8-from_is_utf8 t k)) (front_below n (chars t))
lower_at blobs n (bytes_value t) l k = take_below n t
lower_at s n g l k = absurd l

under_in : (g : ValueData) (vs : List ValueData) (v : ValueData) → Under g vs → In v vs → (v ≡ null_value → ⊥) → value_le v g ≡ true
under_in g [] v u i n = absurd i
under_in g (w ∷ vs) v u i n = ⊎_elim (λ e. ⊎_elim (λ z. absurd (n (e ∙ z))) (λ l. subst (λ z. value_le z g ≡ true) (sym e) l) u.0) (λ j. under_in g vs v u.1 j n) i

over_in : (g : ValueData) (vs : List ValueData) (v : ValueData) → Over g vs → In v vs → (v ≡ null_value → ⊥) → value_le g v ≡ true
over_in g [] v u i n = absurd i
over_in g (w ∷ vs) v u i n = ⊎_elim (λ e. ⊎_elim (λ z. absurd (n (e ∙ z))) (λ l. subst (λ z. value_le g z ≡ true) (sym e) l) u.0) (λ j. over_in g vs v u.1 j n) i

le_null : (v : ValueData) → value_le v null_value ≡ true → ⊥
le_null null_value h = true≢false (sym h)
le_null (bool_value b) h = true≢false (sym h)
le_null (int_value b) h = true≢false (sym h)
le_null (text_value b) h = true≢false (sym h)
le_null (bytes_value b) h = true≢false (sym h)
le_null (list_value b) h = true≢false (sym h)
le_null (struct_value b) h = true≢false (sym h)

module _ (s : Sort) (n : s ≡ nested → ⊥) (vs : List ValueData) (all : AllSort s vs) where
  pub at_most : (v : ValueData) → In v vs → (v ≡ null_value → ⊥) → value_le v (greatest vs) ≡ true
  at_most v i m = ⊎_elim (λ t. under_in (greatest vs) vs v t.1 i m) (λ t. under_in (greatest vs) vs v t.2 i m) (greatest_top s n vs all)

  pub at_least : (v : ValueData) → In v vs → (v ≡ null_value → ⊥) → value_le (least vs) v ≡ true
  at_least v i m = ⊎_elim (λ t. over_in (least vs) vs v t.1 i m) (λ t. over_in (least vs) vs v t.2 i m) (least_bottom s n vs all)

  pub within_upper : (k : ℕ) (v : ValueData) → In v vs → (v ≡ null_value → ⊥) → (upper_bound k (greatest vs) ≡ null_value → ⊥) → value_le v (upper_bound k (greatest vs)) ≡ true
  within_upper k v i m h = ⊎_elim
      (λ t. absurd (le_null v (subst (λ z. value_le v z ≡ true) t.0 (at_most v i m))))
      (λ t. le_trans v (greatest vs) (upper_bound k (greatest vs)) (at_most v i m) (upper_at s k (greatest vs) t.0 t.1 h)) (greatest_top s n vs all)

  pub within_lower : (k : ℕ) (v : ValueData) → In v vs → (v ≡ null_value → ⊥) → value_le (lower_bound k (least vs)) v ≡ true
  within_lower k v i m = ⊎_elim
      (λ t. absurd (true≢false (sym (subst (λ z. value_le z v ≡ true) t.0 (at_least v i m)))))
      (λ t. le_trans (lower_bound k (least vs)) (least vs) v (lower_at s k (least vs) t.0 t.1) (at_least v i m)) (least_bottom s n vs all)

pub bounds_hold : BoundsHold
bounds_hold t n vs v o all i m =
    ((λ h. within_upper (sort_of t) (order_sort t o) vs (values_sort t vs all) n v i m h), within_lower (sort_of t) (order_sort t o) vs (values_sort t vs all) n v i m)
