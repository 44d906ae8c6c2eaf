-- The laws of a flat node.
use Rattle.std.proofs.Common.{◌≡◌, ℕ, ◌<◌, ◌≤◌, ◌^◌, Bool, true, false, List, [], ◌∷◌, ◌++◌, map, length, Option, Some, None, refl, sym, ap, ◌∙◌, subst, inl, arith}
use Rattle.std.proofs.lemmas.List.{append-nil, length-map}
use Rattle.std.proofs.lemmas.Bool.{true≢false}
use Rattle.vx_model.specs.declared.encoding.EncodingId.{EncodingId}
use Rattle.vx_model.specs.Ty.{Ty}
use Rattle.vx_model.specs.CellData.{CellData}
use Rattle.vx_model.specs.ValueData.{value}
use Rattle.vx_model.specs.ChunkData.{cells, row_values, piece_type}
use Rattle.vx_path.specs.Path.{Eof, Region}
use Rattle.vx_path.proofs.Path.{begins-refl}
use Rattle.vx_layout_spec.specs.LayoutTree.{layout_type}
use Rattle.vx_layout_spec.specs.Rows.{and_then, counted}
use Rattle.vx_plan.specs.PlanData.{Setting, Item, Node, fault, many_chunks, at_chunk, paths, places, stream_values}
use Rattle.vx_strategy_spec.specs.StrategyData.{FlatOptions}
use Rattle.vx_plan.specs.FlatNode.{flat_node, segment, pair_at, refused_at, refusals, length_of}
use Rattle.vx_plan.specs.Valid.{Fit, Keeps}
use Rattle.vx_plan.specs.Statements.{Within}
use Rattle.vx_path.proofs.Lists.{in_left}
use Rattle.vx_plan.proofs.PlanLists.{ItemsOf, Holds, Gives, nil_right, counted_same, within}
use Rattle.vx_plan.proofs.Spots.{Apart, Lies, lies_none, lies_one}

-- What the laws say of a node at a type.

pub record Reads (admitted : Bool) (s : Setting) (t : Ty) (k : Node) : Type 0 where
  pub reads : (m : Bool) (items : List Item) (e : Eof) → ItemsOf t items → (k m items true e).faults ≡ [] → Fit (k m items true e).numbers
      → (look : List ℕ → Option (List ℕ)) → Holds look (k m items true e).pairs
      → Gives admitted s look (k m items true e).layout (stream_values items)

pub record Placed (t : Ty) (k : Node) : Type 0 where
  pub placed : (m : Bool) (items : List Item) (ended : Bool) (e : Eof) → Apart (places items) e
      → Lies (Region (places items) e) (paths (k m items ended e).pairs)

pub record Grows (t : Ty) (k : Node) : Type 0 where
  pub grows : (m : Bool) (xs ys : List Item) (ended : Bool) (e : Eof) → Within (k m xs false e) (k m (xs ++ ys) ended e)
  pub quiet : (m : Bool) (e : Eof) → (k m [] false e).pairs ≡ []
  pub still : (m : Bool) (e : Eof) → (k m [] false e).reserved ≡ 0
  pub steady : (m : Bool) (d e : Eof) → (k m [] false d).faults ≡ (k m [] false e).faults

-- the layout has the node's type
pub record Typed (t : Ty) (k : Node) : Type 0 where
  pub typed : (m : Bool) (items : List Item) (ended : Bool) (e : Eof) → layout_type (k m items ended e).layout ≡ t

is_nil : {A : Type 0} → List A → Bool
is_nil [] = true
is_nil (x ∷ xs) = false

pub cons_nil : {A : Type 0} {x : A} {xs : List A} → x ∷ xs ≡ [] → ⊥
unfolding is_nil
cons_nil {A} f = absurd (true≢false (sym (ap (λ (z : List A). is_nil z) f)))

-- ---- rows

no_refusal : (path : List ℕ) (r : Option EncodingId) → refused_at path r ≡ [] → r ≡ None
no_refusal path None e = refl
no_refusal path (Some id) e = cc

held_pair : (look : List ℕ → Option (List ℕ)) (path : List ℕ) (o : Option (List ℕ)) (b : List ℕ) → o ≡ Some b → Holds look (pair_at path o) → look path ≡ Some b
held_pair look path None b e h = cc
held_pair look path (Some c) b e h = h.0 ∙ e

fit_length : (o : Option (List ℕ)) (b : List ℕ) → o ≡ Some b → Fit (length_of o) → length b < 2 ^ 64
fit_length None b e h = cc
fit_length (Some c) b e h = let f : c ≡ b = cc in rw (← f) h.0

-- a segment that is looked up and decoded
flat_value : (found : Option (List ℕ)) (b : List ℕ) (cs : List CellData) (d : List ℕ → Option (List CellData)) → found ≡ Some b → d b ≡ Some cs
    → and_then (counted (length cs)) (and_then (λ ts. Some (map value ts)) (and_then d found)) ≡ Some (map value cs)
flat_value found b cs d e f = rw (e, f) (counted_same (length cs) (map value cs) (length-map cs value))

pub flat_reads : (admitted : Bool) (s : Setting) → Keeps s → (o : FlatOptions) (t : Ty) → Reads admitted s t (flat_node s o t)
flat_reads admitted s keeps o t = record { reads = go }
  where
    go : (m : Bool) (items : List Item) (e : Eof) → ItemsOf t items → (flat_node s o t m items true e).faults ≡ [] → Fit (flat_node s o t m items true e).numbers
        → (look : List ℕ → Option (List ℕ)) → Holds look (flat_node s o t m items true e).pairs
        → Gives admitted s look (flat_node s o t m items true e).layout (stream_values items)
    go m [] e of clean fit look held = record { read = refl; zones = λ a. (tt, tt) }
    go m (i ∷ []) e of clean fit look held =
        let none : s.codec.refused s.encodings i.1 ≡ None = no_refusal i.0 (s.codec.refused s.encodings i.1) clean in
        let enc : (b : List ℕ) × (segment s o i ≡ Some b) = keeps.codec.encodes o.padding i.1 none in
        let short : length enc.0 < 2 ^ 64 = fit_length (segment s o i) enc.0 enc.1 fit.1 in
        let again : s.codec.decode s.encodings (piece_type i.1) enc.0 ≡ Some (cells i.1) = keeps.codec.again o.padding i.1 enc.0 of.0.whole enc.1 short in
        record {
          zones = λ a. (tt, tt);
          read = flat_value (look i.0) enc.0 (cells i.1) (s.codec.decode s.encodings t) (held_pair look i.0 (segment s o i) enc.0 enc.1 held)
              (subst (λ u. s.codec.decode s.encodings u enc.0 ≡ Some (cells i.1)) of.0.typed again)
              ∙ ap Some (sym (append-nil (row_values i.1)));
        }
    go m (i ∷ j ∷ is) e of clean fit look held = let f = nil_right (refused_at i.0 (s.codec.refused s.encodings i.1)) _ clean in absurd (cons_nil f)

-- ---- paths

pair_lies : (i : List ℕ) (e : Eof) (o : Option (List ℕ)) → Lies (Region (i ∷ []) e) (paths (pair_at i o))
pair_lies i e None = lies_none (Region (i ∷ []) e)
pair_lies i e (Some b) = lies_one (Region (i ∷ []) e) i (inl (i, inl refl, begins-refl i))

pub flat_placed : (s : Setting) (o : FlatOptions) (t : Ty) → Placed t (flat_node s o t)
flat_placed s o t = record { placed = go }
  where
    go : (m : Bool) (items : List Item) (ended : Bool) (e : Eof) → Apart (places items) e → Lies (Region (places items) e) (paths (flat_node s o t m items ended e).pairs)
    go m [] ended e a = lies_none (Region [] e)
    go m (i ∷ []) true e a = pair_lies i.0 e (segment s o i)
    go m (i ∷ []) false e a = lies_none (Region (i.0 ∷ []) e)
    go m (i ∷ j ∷ is) ended e a = lies_none (Region (places (i ∷ j ∷ is)) e)

-- ---- prefixes

pub flat_grows : (s : Setting) (o : FlatOptions) (t : Ty) → Grows t (flat_node s o t)
flat_grows s o t = record { grows = go; quiet = λ m e. refl; still = λ m e. refl; steady = λ m d e. refl }
  where
    none : 0 ≤ 0
    none = omega arith

    go : (m : Bool) (xs ys : List Item) (ended : Bool) (e : Eof) → Within (flat_node s o t m xs false e) (flat_node s o t m (xs ++ ys) ended e)
    go m [] ys ended e = within (λ x h. absurd h) (λ f h. absurd h) (λ c h. tt) (omega arith)
    go m (i ∷ []) [] ended e = within (λ x h. absurd h) (λ f h. h) (λ c h. h) none
    go m (i ∷ []) (y ∷ ys) ended e = within (λ x h. absurd h) (λ f h. in_left f (refusals s i) (fault many_chunks (at_chunk y.0) ∷ []) h) (λ c h. h) none
    go m (i ∷ j ∷ is) ys ended e = within (λ x h. h) (λ f h. h) (λ c h. h) none

pub flat_typed : (s : Setting) (o : FlatOptions) (t : Ty) → Typed t (flat_node s o t)
flat_typed s o t = record { typed = go }
  where
    go : (m : Bool) (items : List Item) (ended : Bool) (e : Eof) → layout_type (flat_node s o t m items ended e).layout ≡ t
    go m [] ended e = refl
    go m (i ∷ []) ended e = refl
    go m (i ∷ j ∷ is) ended e = refl
