-- Children that are asked for.
use Rattle.std.proofs.Common.{◌≡◌, ℕ, zero, suc, ◌-◌, ◌<◌, ◌≤◌, Bool, false, List, [], ◌∷◌, length, get_or, map, Ok, Err, refl, sym, ◌∙◌, arith}
use Rattle.std.proofs.lemmas.List.{length-map}
use Rattle.vx_model.specs.declared.dtype.StructField.{StructField}
use Rattle.vx_model.specs.declared.dtype.DType.{DType}
use Rattle.vx_model.specs.Ty.{Ty, boolean, tys_of}
use Rattle.vx_model.specs.TyView.{ty, field_ty}
use Rattle.vx_model.proofs.Views.{view_rules, field_ty_is}
use Rattle.vx_layout_spec.specs.LayoutTree.{LayoutData}
use Rattle.vx_layout_bytes.specs.declared.view.NodeView.{NodeView}
use Rattle.vx_layout_bytes.specs.declared.view.NodeViews.{NodeViews}
use Rattle.vx_layout_bytes.specs.Node.{Own, nodes_of, own_of}
use Rattle.vx_layout_bytes.specs.There.{node_there}
use Rattle.vx_layout_bytes.specs.Views.{seen_node, seen_nodes, nth_node}
use Rattle.vx_session.specs.Scope.{Scope}
use Rattle.vx_session.specs.Made.{Made, ChildData, all_stand, each_stands}
use Rattle.vx_session.specs.Kinds.{types_in}
use Rattle.vx_session.specs.Builder.{kids, builder, built_or_refused, is_flat_node}
use Rattle.vx_layout_tree.specs.declared.error.LayoutError.{LayoutError}
use Rattle.vx_layout_tree.specs.Children.{answered, child_in}
use Rattle.vx_layout_tree.specs.Views.{Fails}
use Rattle.vx_layout_tree.proofs.KidSteps.{length-owned, length-kids, fails_by}
use Rattle.vx_layout_build.specs.Asked.{built, answer_at, type_at}

pub chunk_in : (t : Ty) (ks : List ChildData) (i : ℕ) → child_in (all_stand t ks) i ≡ answer_at ks i t
chunk_in t [] i = refl
chunk_in t (k ∷ ks) zero = refl
chunk_in t (k ∷ ks) (suc i) = chunk_in t ks i

pub field_in : (ts : List Ty) (ks : List ChildData) (i : ℕ) → i < length ks → length ks ≡ length ts → child_in (each_stands ts ks) i ≡ answer_at ks i (type_at ts i)
field_in [] [] i lt e = absurd (omega (arith, lt))
field_in [] (k ∷ ks) i lt e = absurd (omega (arith, e))
field_in (t ∷ ts) [] i lt e = absurd (omega (arith, lt))
field_in (t ∷ ts) (k ∷ ks) zero lt e = refl
field_in (t ∷ ts) (k ∷ ks) (suc i) lt e = field_in ts ks i (omega (arith, lt)) (omega (arith, e))

pub ruleset standing_rules = (chunk_in, field_in, length-owned, length-map)

stands_built : (is_one : Bool) (o : Own) (t : Ty) (r : Made) → answered (built_or_refused is_one o t r) ≡ built r
stands_built is_one o t (Ok l) = refl
stands_built is_one o t (Err refusal) = refl

viewed_answer : (s : Scope) (bytes ps : List ℕ) (i : ℕ) (t : Ty) → i < length ps → answer_at (kids s (nodes_of (map (node_there bytes) ps))) i t ≡ built (builder s (node_there bytes (get_or ps i 0)) t)
viewed_answer s bytes [] i t lt = absurd (omega (arith, lt))
viewed_answer s bytes (p ∷ ps) zero t lt = stands_built (is_flat_node s (own_of (node_there bytes p))) (own_of (node_there bytes p)) t (builder s (node_there bytes p) t)
viewed_answer s bytes (p ∷ ps) (suc i) t lt = viewed_answer s bytes ps i t (omega (arith, lt))

-- the answer of a node that is built
pub answer_is : (s : Scope) (v : NodeViews) (i : ℕ) (n : NodeView) (t : Ty) (l : LayoutData ℕ) → i < length v.places.items → seen_node n ≡ nth_node v i → builder s (seen_node n) t ≡ Ok l → answered l ≡ Ok l
    → answer_at (kids s (nodes_of (seen_nodes v))) i t ≡ Ok l
answer_is s v i n t l lt is made whole_l = rw (viewed_answer s v.bytes v.places.items i t lt, ← is, made) whole_l

pub answer_fails : (e : LayoutError) (s : Scope) (v : NodeViews) (i : ℕ) (n : NodeView) (t : Ty) → i < length v.places.items → seen_node n ≡ nth_node v i → Fails e (builder s (seen_node n) t)
    → Fails e (answer_at (kids s (nodes_of (seen_nodes v))) i t)
answer_fails e s v i n t lt is h = fails_by e (builder s (seen_node n) t) (answer_at (kids s (nodes_of (seen_nodes v))) i t) (λ x made. rw (viewed_answer s v.bytes v.places.items i t lt, ← is, made) refl) h

pub ruleset built_rules = (answer_is, answer_fails, length-kids, length-map)

-- ---- types of a struct's children

nth : (fs : List StructField) (i : ℕ) (f : StructField) → i < length fs → f ≡ get_or fs i f → type_at (types_in (tys_of (map field_ty fs))) i ≡ ty f.dtype
nth [] i f lt is = absurd (omega (arith, lt))
nth (g ∷ fs) zero f lt is = rw (is, field_ty_is g) refl
nth (g ∷ fs) (suc i) f lt is = nth fs i f (omega (arith, lt)) is

past : (fs : List StructField) (i : ℕ) → length fs ≤ i → type_at (types_in (tys_of (map field_ty fs))) i ≡ boolean false
past [] i le = refl
past (f ∷ fs) zero le = absurd (omega (arith, le))
past (f ∷ fs) (suc i) le = past fs i (omega (arith, le))

pub nth_type_is : (fs : List StructField) (i : ℕ) (f : StructField) → i < length fs → f ≡ get_or fs i f → ty f.dtype ≡ type_at (types_in (tys_of (map field_ty fs))) i
nth_type_is fs i f lt is = sym (nth fs i f lt is)

pub past_type_is : (fs : List StructField) (i : ℕ) (d : DType) → length fs ≤ i → ty d ≡ boolean false → ty d ≡ type_at (types_in (tys_of (map field_ty fs))) i
past_type_is fs i d le is = is ∙ sym (past fs i le)

behind_first : (ts : List Ty) (i : ℕ) → 0 < i → type_at (boolean false ∷ ts) i ≡ type_at ts (i - 1)
behind_first ts zero lt = absurd (omega (arith, lt))
behind_first ts (suc i) lt = let e : suc i - 1 ≡ i = omega arith in rw e refl

pub behind_validity : (d : DType) (ts : List Ty) (i : ℕ) → 0 < i → ty d ≡ type_at ts (i - 1) → ty d ≡ type_at (boolean false ∷ ts) i
behind_validity d ts i lt is = is ∙ sym (behind_first ts i lt)

pub ruleset type_rules = (view_rules, nth_type_is, past_type_is, behind_validity)
