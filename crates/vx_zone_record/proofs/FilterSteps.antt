-- A filter, one row at a time.
use Rattle.std.proofs.Common.{◌≡◌, ℕ, ◌+◌, ◌<◌, ◌≤◌, true, List, [], ◌∷◌, ◌++◌, map, length, drop, get_or, refl, sym, ap, ◌∙◌, Some, None}
use Rattle.std.specs.Option.{option_map, option_to_list}
use Rattle.std.proofs.lemmas.List.{drop_more, drop_all, append-nil}
use Rattle.vx_model.specs.Words.{all_by}
use Rattle.vx_model.specs.declared.row_value.Value as values
use Rattle.vx_model.specs.TreeView.{val}
use Rattle.vx_model.specs.Ty.{Ty, boolean, primitive, utf8, binary, list, struct, extension, has_order}
use Rattle.vx_model.specs.ValueData.{ValueData, null_value, text_value, bytes_value, list_value, no_values, value_fits, is_row_value}
use Rattle.vx_bloom_spec.specs.Blocks.{Block}
use Rattle.vx_bloom_spec.specs.Bytes.{filter_bytes}
use Rattle.vx_bloom_spec.specs.Filter.{filter_of}
use Rattle.vx_bloom_spec.specs.Values.{hashed_bytes, value_hash, value_hashes, all_inserted}
use Rattle.vx_bloom.proofs.ValueLaws.{all_inserted-append, all_inserted_of, val_binary}
use Rattle.vx_zone_record.specs.Scalars.{shallow}
use Rattle.vx_zone_record.proofs.RowValues.{shallow_is}
use Rattle.vx_zone_record.proofs.Walks.{holds_here}

-- ---- what is hashed

null_unhashed : (t : Ty) → hashed_bytes t null_value ≡ None
null_unhashed (boolean n) = refl
null_unhashed (primitive p n) = refl
null_unhashed (utf8 n) = refl
null_unhashed (binary n) = refl
null_unhashed (list t n) = refl
null_unhashed (struct fs n) = refl
null_unhashed (extension tag t) = null_unhashed t

pub null_hashes : (hash : List ℕ → ℕ) (t : Ty) → value_hashes hash t (null_value ∷ []) ≡ []
null_hashes hash t = ap (λ o. option_to_list (option_map hash o) ++ []) (null_unhashed t)

text_hashed : (t : Ty) (s : List ℕ) → value_fits t (text_value s) ≡ true → hashed_bytes t (text_value s) ≡ Some s
text_hashed (boolean n) s f = cc
text_hashed (primitive p n) s f = cc
text_hashed (utf8 n) s f = refl
text_hashed (binary n) s f = cc
text_hashed (list t n) s f = cc
text_hashed (struct fs n) s f = cc
text_hashed (extension tag t) s f = text_hashed t s f

pub text_hashes : (hash : List ℕ → ℕ) (t : Ty) (s : List ℕ) → is_row_value t (text_value s) ≡ true → value_hashes hash t (text_value s ∷ []) ≡ hash s ∷ []
text_hashes hash t s f = ap (λ o. option_to_list (option_map hash o) ++ []) (text_hashed t s f)

bytes_are_hashed : (t : Ty) (s : List ℕ) → value_fits t (bytes_value s) ≡ true → hashed_bytes t (bytes_value s) ≡ Some s
bytes_are_hashed (boolean n) s f = cc
bytes_are_hashed (primitive p n) s f = cc
bytes_are_hashed (utf8 n) s f = cc
bytes_are_hashed (binary n) s f = refl
bytes_are_hashed (list t n) s f = cc
bytes_are_hashed (struct fs n) s f = cc
bytes_are_hashed (extension tag t) s f = bytes_are_hashed t s f

pub bytes_hashes : (hash : List ℕ → ℕ) (t : Ty) (s : List ℕ) → is_row_value t (bytes_value s) ≡ true → value_hashes hash t (bytes_value s ∷ []) ≡ hash s ∷ []
bytes_hashes hash t s f = ap (λ o. option_to_list (option_map hash o) ++ []) (bytes_are_hashed t s f)

-- values that are hashed are no lists
no_lists : (t : Ty) → has_order t ≡ true → value_fits t (list_value no_values) ≡ true → ⊥
no_lists (boolean n) o f = cc
no_lists (primitive p n) o f = cc
no_lists (utf8 n) o f = cc
no_lists (binary n) o f = cc
no_lists (list t n) o f = cc
no_lists (struct fs n) o f = cc
no_lists (extension tag t) o f = no_lists t o f

pub list_hashes : (hash : List ℕ → ℕ) (t : Ty) → has_order t ≡ true → is_row_value t (list_value no_values) ≡ true → value_hashes hash t (list_value no_values ∷ []) ≡ []
list_hashes hash t o f = absurd (no_lists t o f)

-- ---- the steps of the loop

module _ {R : Type 0} (hash : List ℕ → ℕ) (t : Ty) (f : R → ValueData) where
  drop_hashes : (b : List Block) (xs : List R) (i : ℕ) (x : R) → i < length xs → x ≡ get_or xs i x
      → all_inserted b (value_hashes hash t (map f (drop i xs))) ≡ all_inserted (all_inserted b (value_hashes hash t (f x ∷ []))) (value_hashes hash t (map f (drop (i + 1) xs)))
  drop_hashes b xs i x lt is =
      rw (drop_more xs i x lt, ← is)
      (all_inserted-append b (option_to_list (value_hash hash t (f x))) (value_hashes hash t (map f (drop (i + 1) xs)))
      ∙ ap (λ (hs : List ℕ). all_inserted (all_inserted b hs) (value_hashes hash t (map f (drop (i + 1) xs)))) (sym (append-nil (option_to_list (value_hash hash t (f x))))))

  -- all rows are inserted
  all_rows : (p : List Block) (blocks i : ℕ) (xs : List R) → length xs ≤ i → all_inserted p (value_hashes hash t (map f (drop i xs))) ≡ all_inserted (filter_of blocks []) (value_hashes hash t (map f xs))
      → p ≡ filter_of blocks (value_hashes hash t (map f xs))
  all_rows p blocks i xs le e = ap (λ (ys : List R). all_inserted p (value_hashes hash t (map f ys))) (sym (drop_all i xs le)) ∙ e ∙ all_inserted_of (filter_of blocks []) blocks [] (value_hashes hash t (map f xs)) refl

  pub filter_end : (p : List Block) (blocks i : ℕ) (xs : List R) (bytes out : List ℕ) → length xs ≤ i → all_inserted p (value_hashes hash t (map f (drop i xs))) ≡ all_inserted (filter_of blocks []) (value_hashes hash t (map f xs))
      → bytes ≡ filter_bytes p → out ≡ bytes → val (values.Binary out) ≡ bytes_value (filter_bytes (filter_of blocks (value_hashes hash t (map f xs))))
  filter_end p blocks i xs bytes out le e b o = val_binary out ∙ ap bytes_value (o ∙ b ∙ ap filter_bytes (all_rows p blocks i xs le e))

  -- a row as it is read is the row, and one of the type
  module _ (xs : List R) (i : ℕ) (x : R) (s : ValueData) (lt : i < length xs) (is : x ≡ get_or xs i x) (o : has_order t ≡ true) (fit : all_by (is_row_value t) (map f (drop i xs)) ≡ true) (e : s ≡ shallow (f x)) where
    row_is : s ≡ f x
    row_is = e ∙ shallow_is t (f x) o (holds_here (is_row_value t) f xs i x lt is fit)

    pub row_fits : is_row_value t s ≡ true
    row_fits = ap (is_row_value t) row_is ∙ holds_here (is_row_value t) f xs i x lt is fit

    pub one_inserted : (b c all : List Block) → c ≡ all_inserted b (value_hashes hash t (s ∷ [])) → all_inserted b (value_hashes hash t (map f (drop i xs))) ≡ all
        → all_inserted c (value_hashes hash t (map f (drop (i + 1) xs))) ≡ all
    one_inserted b c all n k =
        ap (λ (z : List Block). all_inserted z (value_hashes hash t (map f (drop (i + 1) xs)))) (n ∙ ap (λ (z : ValueData). all_inserted b (value_hashes hash t (z ∷ []))) row_is)
        ∙ sym (drop_hashes b xs i x lt is) ∙ k

pub ruleset insert_rules = (null_hashes, text_hashes, bytes_hashes, list_hashes)
