-- Values and their hashes.
use Rattle.std.proofs.Common.{◌≡◌, ℕ, ◌+◌, ◌<◌, true, false, List, [], ◌∷◌, ◌++◌, length, map, drop, get_or, refl, sym, ap, ◌∙◌, arith, rules, append_assoc}
use Rattle.std.specs.Prelude.{None, ◌||◌}
use Rattle.std.specs.Option.{option_map, option_to_list}
use Rattle.std.proofs.lemmas.List.{append-nil, drop_more}
use Rattle.vx_model.specs.declared.row_value.Value.{Value}
use Rattle.vx_model.specs.declared.row_value.Value as vl
use Rattle.vx_model.specs.TreeView.{val}
use Rattle.vx_model.specs.Ty.{Ty, boolean, primitive, utf8, binary, list, struct, extension, has_order}
use Rattle.vx_model.specs.ValueData.{ValueData, bytes_value}
use Rattle.vx_bloom_spec.specs.Blocks.{Block}
use Rattle.vx_bloom_spec.specs.Filter.{filter_of, inserted}
use Rattle.vx_bloom_spec.specs.Values.{is_unsupported, hashed_bytes, value_hash, value_hashes, all_inserted, any_unsupported}
use Rattle.vx_bloom_spec.proofs.Filters.{inserted_of}

unhashed : (t : Ty) (v : ValueData) → has_order t ≡ false → hashed_bytes t v ≡ None
unhashed (boolean n) v e = cc
unhashed (primitive p n) v e = cc
unhashed (utf8 n) v e = cc
unhashed (binary n) v e = cc
unhashed (list t n) v e = refl
unhashed (struct fs n) v e = refl
unhashed (extension tag t) v e = unhashed t v e

unsupported_unhashed : (t : Ty) (v : ValueData) → is_unsupported t v ≡ true → has_order t ≡ false
unsupported_unhashed t v e = grind arith

pub unsupported_none : (hash : List ℕ → ℕ) (t : Ty) (v : ValueData) → is_unsupported t v ≡ true → value_hash hash t v ≡ None
unsupported_none hash t v e = ap (option_map hash) (unhashed t v (unsupported_unhashed t v e))

pub all_inserted-append : (blocks : List Block) (xs ys : List ℕ) → all_inserted blocks (xs ++ ys) ≡ all_inserted (all_inserted blocks xs) ys
all_inserted-append blocks [] ys = refl
all_inserted-append blocks (x ∷ xs) ys = all_inserted-append (inserted blocks x) xs ys

-- a list's filter with more hashes
pub all_inserted_of : (filter : List Block) (blocks : ℕ) (hashes more : List ℕ) → filter ≡ filter_of blocks hashes
    → all_inserted filter more ≡ filter_of blocks (hashes ++ more)
all_inserted_of filter blocks hashes [] e = e ∙ ap (filter_of blocks) (sym (append-nil hashes))
all_inserted_of filter blocks hashes (hash ∷ more) e =
    all_inserted_of (inserted filter hash) blocks (hashes ++ hash ∷ []) more (inserted_of filter blocks hashes hash e)
    ∙ ap (filter_of blocks) (append_assoc hashes (hash ∷ []) more)

-- a stored filter as contracts see it
pub val_binary : (bytes : List ℕ) → val (vl.Binary bytes) ≡ bytes_value bytes
val_binary bytes = search (rules, vl.the_lemmas)

-- ---- the steps of loops over values

pub drop_unsupported : (t : Ty) (values : List Value) (i : ℕ) (v : Value) → i < length values → v ≡ get_or values i v
    → any_unsupported t (map val (drop i values)) ≡ (is_unsupported t (val v) || any_unsupported t (map val (drop (i + 1) values)))
drop_unsupported t values i v low is = rw (drop_more values i v low, ← is) refl

pub drop_inserted : (hash : List ℕ → ℕ) (t : Ty) (blocks : List Block) (values : List Value) (i : ℕ) (v : Value) → i < length values → v ≡ get_or values i v
    → all_inserted blocks (value_hashes hash t (map val (drop i values)))
    ≡ all_inserted (all_inserted blocks (value_hashes hash t (val v ∷ []))) (value_hashes hash t (map val (drop (i + 1) values)))
drop_inserted hash t blocks values i v low is =
    rw (drop_more values i v low, ← is)
    (all_inserted-append blocks (option_to_list (value_hash hash t (val v))) (value_hashes hash t (map val (drop (i + 1) values)))
    ∙ ap (λ (xs : List ℕ). all_inserted (all_inserted blocks xs) (value_hashes hash t (map val (drop (i + 1) values))))
    (sym (append-nil (option_to_list (value_hash hash t (val v))))))

pub ruleset value_rules = (unsupported_none, all_inserted_of)

pub ruleset accumulate_rules = (drop_unsupported, drop_inserted, all_inserted_of)
