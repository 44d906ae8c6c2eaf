-- Reading lists, item by item, as a loop does.
use Rattle.std.proofs.Common.{◌≡◌, ℕ, ◌+◌, ◌<◌, List, [], ◌∷◌, ◌++◌, length, get_or, drop, Option, Some, None, option_map, refl, sym, ap, ◌∙◌, append_assoc}
use Rattle.std.proofs.lemmas.List.{drop_more, append-nil, map_push}
use Rattle.serde_json.specs.Data.{Data}
use Rattle.serde_json.specs.View.{view, items_view}
use Rattle.serde_json.specs.declared.value.Value.{Value}
use Rattle.vx_json.specs.Lists.{each, first_and}
use Rattle.vx_json.specs.declared.error.JsonError.{JsonError}
use Rattle.vx_json.specs.declared.error.JsonError.TheVariants as errors
use Rattle.vx_json.specs.Views.{Fails}

-- what was read before, and what is still read
abbrev pub with_front : {A : Type 0} → List A → Option (List A) → Option (List A)
with_front front read = option_map (λ more. front ++ more) read

pub regroup : {A : Type 0} (front : List A) (x : A) (read : Option (List A)) → with_front front (first_and (Some x) read) ≡ with_front (front ++ x ∷ []) read
unfolding first_and
regroup front x None = refl
regroup front x (Some ys) = ap Some (sym (append_assoc front (x ∷ []) ys))

pub each_goes_on : {A : Type 0} (f : Data → Option A) (vs : List Value) (i : ℕ) (v : Value) (front : List A) (x : A) (all : Option (List A)) → i < length vs → v ≡ get_or vs i v
    → f (view v) ≡ Some x → with_front front (each f (items_view (drop i vs))) ≡ all → with_front (front ++ x ∷ []) (each f (items_view (drop (i + 1) vs))) ≡ all
each_goes_on f vs i v front x all lt is e so_far =
    let step : with_front front (each f (items_view (drop i vs))) ≡ with_front (front ++ x ∷ []) (each f (items_view (drop (i + 1) vs))) = rw (drop_more vs i v lt, ← is, e) (regroup front x (each f (items_view (drop (i + 1) vs)))) in
    sym step ∙ so_far

pub each_none : {A : Type 0} (f : Data → Option A) (vs : List Value) (i : ℕ) (v : Value) (front : List A) (all : Option (List A)) → i < length vs → v ≡ get_or vs i v
    → f (view v) ≡ None → with_front front (each f (items_view (drop i vs))) ≡ all → all ≡ None
unfolding first_and
each_none f vs i v front all lt is e so_far = sym so_far ∙ rw (drop_more vs i v lt, ← is, e) refl

-- an item that is refused
pub each_stops : {A : Type 0} (error : JsonError) (f : Data → Option A) (vs : List Value) (i : ℕ) (v : Value) (front : List A) (all : Option (List A)) → i < length vs → v ≡ get_or vs i v
    → Fails error (f (view v)) → with_front front (each f (items_view (drop i vs))) ≡ all → Fails error all
each_stops errors.Wrong f vs i v front all lt is e so_far = each_none f vs i v front all lt is e so_far
each_stops errors.OutOfMemory f vs i v front all lt is e so_far = tt

pub ruleset item_rules = (each_goes_on, each_none, map_push, append-nil)

pub ruleset list_rules = (item_rules, each_stops)
