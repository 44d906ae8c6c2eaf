-- What holds of each node, from its children's and from a condition on the strategy's flat nodes, holds of every plan.
use Rattle.std.proofs.Common.{ℕ, ◌≡◌, Bool, true, false, List, [], ◌∷◌, ◌++◌, Option, Some, None, refl, inl}
use Rattle.std.specs.Prelude.{if◌then◌else◌, ◌&&◌, nat_lt}
use Rattle.vx_model.specs.Ty.{Ty, Tys, boolean, primitive, utf8, binary, list, struct, extension, no_fields, field}
use Rattle.vx_model.specs.ChunkData.{is_dict_type}
use Rattle.vx_path.specs.Lists.{In}
use Rattle.vx_path.proofs.Lists.{in_left, in_right}
use Rattle.vx_rules.specs.Columns.{offset_type}
use Rattle.vx_rules.specs.Runs.{DictOptions, code_type}
use Rattle.vx_plan.specs.PlanData.{Setting, Node}
use Rattle.vx_strategy_spec.specs.StrategyData.{StrategyData, StrategyList, Wraps, FlatOptions, ZonedOptions, Grouping, flat, chunked, grouped, compressed, coded, zoned, structured, listed, tabled, no_ways, way_at, no_wraps, wrap_grouped, wrap_zoned}
use Rattle.vx_strategy_spec.specs.Admitted.{is_admitted, are_admitted, wraps_admitted, are_apart, is_admitted_grouping, is_admitted_zoned}
use Rattle.vx_strategy_spec.specs.Walk.{Named, Around, same_names, find, duplicate, chosen, field_nodes, of_struct, of_list, of_dict, in_lists, of_table, of_tables, walk_named, walk_wraps}
use Rattle.vx_plan.specs.FlatNode.{flat_node}
use Rattle.vx_plan.specs.ChunkedNode.{chunked_node}
use Rattle.vx_plan.specs.GroupNode.{grouped_node, compressed_node}
use Rattle.vx_plan.specs.DictNode.{dict_node}
use Rattle.vx_plan.specs.ZonedNode.{zoned_node}
use Rattle.vx_plan.specs.ColumnNodes.{not_struct_node, struct_node, list_node}
use Rattle.vx_plan.specs.SourcePlan.{plan, plan_nodes}
use Rattle.vx_plan.proofs.Relate.{Given, given_left, given_right, Fields}
use Rattle.vx_array_tree_laws.specs.Flats.{flats, named_flats, wrap_flats}

module _ (s : Setting) (admitted : Bool) (Q : FlatOptions → Type 0) (P : Ty → Node → Type 0) where
  pub record Cases : Type 0 where
    pub flat_case : (o : FlatOptions) → Q o → (t : Ty) → P t (flat_node s o t)
    pub chunked_case : (t : Ty) (k : Node) → P t k → P t (chunked_node t k)
    pub grouped_case : (g : Grouping) (t : Ty) (k : Node) → P t k → P t (grouped_node g t k)
    pub compressed_case : (which room : ℕ) (t : Ty) (k : Node) → P t k → P t (compressed_node s which room t k)
    pub dict_case : (o : DictOptions) (t : Ty) → is_dict_type t ≡ true → (c v f : Node) → P (code_type o) c → P t v → P t f → P t (dict_node s o t c v f)
    pub zoned_case : (o : ZonedOptions) → Given admitted (is_admitted_zoned o) → (t : Ty) (k : Node) (f : Ty → Node) → P t k → ((u : Ty) → P u (f u)) → P t (zoned_node s o t k f)
    pub not_struct_case : (t : Ty) → P t (not_struct_node t)
    pub struct_case : (fs : Tys) (n : Bool) (dup : Option (List ℕ)) (v : Node) (ks : List Node) → P (boolean false) v → Fields P fs ks → P (struct fs n) (struct_node fs n dup v ks)
    pub list_case : (t : Ty) (n : Bool) (e o v : Node) → P t e → P offset_type o → P (boolean false) v → P (list t n) (list_node t n e o v)

  abbrev pub Allowed : List FlatOptions → Type 0
  Allowed os = (o : FlatOptions) → In o os → Q o

  left : (xs ys : List FlatOptions) → Allowed (xs ++ ys) → Allowed xs
  left xs ys h o i = h o (in_left o xs ys i)

  right : (xs ys : List FlatOptions) → Allowed (xs ++ ys) → Allowed ys
  right xs ys h o i = h o (in_right o xs ys i)

  -- at every type
  abbrev pub Holding : (Ty → Node) → Type 0
  Holding f = (t : Ty) → P t (f t)

  abbrev pub AllHolding : Named Node → Type 0
  AllHolding [] = Unit {0}
  AllHolding (w ∷ ws) = Holding w.1 × AllHolding ws

  found : (path : List (List ℕ)) (ws : Named Node) → AllHolding ws → (t : Ty) (k : Node) → P t k → P t (chosen (find path ws) t k)
  found path [] h t k p = p
  found path (w ∷ ws) h t k p = go (same_names path w.0) (found path ws h.1 t k p)
    where
      go : (b : Bool) → P t (chosen (find path ws) t k) → P t (chosen (if b then Some w.1 else find path ws) t k)
      go true r = h.0 t
      go false r = r

  fields_hold : (d : Ty → Node) (ws : Named Node) → Holding d → AllHolding ws → (fs : Tys) → Fields P fs (field_nodes d ws fs)
  fields_hold d ws h all no_fields = tt
  fields_hold d ws h all (field name t fs) = (found (name ∷ []) ws all t (d t) (h t), fields_hold d ws h all fs)

  struct_holds : Cases → (v d : Ty → Node) (ws : Named Node) → Holding v → Holding d → AllHolding ws → (t : Ty) → P t (of_struct (plan_nodes s) v d ws t)
  struct_holds g v d ws x y all (struct fs n) = g.struct_case fs n (duplicate fs) (v (boolean false)) (field_nodes d ws fs) (x (boolean false)) (fields_hold d ws y all fs)
  struct_holds g v d ws x y all (boolean n) = g.not_struct_case (boolean n)
  struct_holds g v d ws x y all (primitive p n) = g.not_struct_case (primitive p n)
  struct_holds g v d ws x y all (utf8 n) = g.not_struct_case (utf8 n)
  struct_holds g v d ws x y all (binary n) = g.not_struct_case (binary n)
  struct_holds g v d ws x y all (list t n) = g.not_struct_case (list t n)
  struct_holds g v d ws x y all (extension tag t) = g.not_struct_case (extension tag t)

  list_holds : Cases → (e o v f : Ty → Node) → Holding e → Holding o → Holding v → Holding f → (t : Ty) → P t (of_list (plan_nodes s) e o v f t)
  list_holds g e o v f x y z w (list t n) = g.list_case t n (e t) (o offset_type) (v (boolean false)) (x t) (y offset_type) (z (boolean false))
  list_holds g e o v f x y z w (boolean n) = w (boolean n)
  list_holds g e o v f x y z w (primitive p n) = w (primitive p n)
  list_holds g e o v f x y z w (utf8 n) = w (utf8 n)
  list_holds g e o v f x y z w (binary n) = w (binary n)
  list_holds g e o v f x y z w (struct fs n) = w (struct fs n)
  list_holds g e o v f x y z w (extension tag t) = w (extension tag t)

  dict_holds : Cases → (o : DictOptions) (c v f : Ty → Node) → Holding c → Holding v → Holding f → (t : Ty) → P t (of_dict (plan_nodes s) o c v f t)
  dict_holds g o c v f x y z t = go (is_dict_type t) refl
    where
      go : (is : Bool) → is_dict_type t ≡ is → P t (if is then dict_node s o t (c (code_type o)) (v t) (f t) else f t)
      go true e = g.dict_case o t e (c (code_type o)) (v t) (f t) (x (code_type o)) (y t) (z t)
      go false e = z t

  abbrev pub AroundHolding : Around Node → Type 0
  AroundHolding None = Unit {0}
  AroundHolding (Some f) = (t : Ty) (k : Node) → P t k → P t (f t k)

  lists_hold : (f : Around Node) → AroundHolding f → (t : Ty) (x k : Node) → P t x → P t k → P t (in_lists f t x k)
  lists_hold None r t x k p q = p
  lists_hold (Some f) r t x k p q = r t k q

  mutual
    table_holds : Cases → (v d : Ty → Node) (f : Around Node) → Holding v → Holding d → AroundHolding f → (ws : Named Node) → AllHolding ws → (walked : List (List ℕ)) (t : Ty)
        → P t (of_table (plan_nodes s) v d f ws walked t)
    table_holds g v d f x y r ws all walked (struct fs n) =
        g.struct_case fs n (duplicate fs) (v (boolean false)) (of_tables (plan_nodes s) v d f ws walked fs) (x (boolean false)) (tables_hold g v d f x y r ws all walked fs)
    table_holds g v d f x y r ws all walked (list t n) =
        lists_hold f r (list t n) (d (list t n)) (list_node t n (of_table (plan_nodes s) v d f [] [] t) (d offset_type) (v (boolean false))) (y (list t n))
        (g.list_case t n (of_table (plan_nodes s) v d f [] [] t) (d offset_type) (v (boolean false)) (table_holds g v d f x y r [] tt [] t) (y offset_type) (x (boolean false)))
    table_holds g v d f x y r ws all walked (boolean n) = y (boolean n)
    table_holds g v d f x y r ws all walked (primitive p n) = y (primitive p n)
    table_holds g v d f x y r ws all walked (utf8 n) = y (utf8 n)
    table_holds g v d f x y r ws all walked (binary n) = y (binary n)
    table_holds g v d f x y r ws all walked (extension tag t) = y (extension tag t)

    tables_hold : Cases → (v d : Ty → Node) (f : Around Node) → Holding v → Holding d → AroundHolding f → (ws : Named Node) → AllHolding ws → (walked : List (List ℕ)) (fs : Tys)
        → Fields P fs (of_tables (plan_nodes s) v d f ws walked fs)
    tables_hold g v d f x y r ws all walked no_fields = tt
    tables_hold g v d f x y r ws all walked (field name t fs) = (
      found (walked ++ (name ∷ [])) ws all t (of_table (plan_nodes s) v d f ws (walked ++ (name ∷ [])) t) (table_holds g v d f x y r ws all (walked ++ (name ∷ [])) t),
      tables_hold g v d f x y r ws all walked fs,
    )

  around_holds : (lists : Bool) (f : Ty → Node → Node) → ((t : Ty) (k : Node) → P t k → P t (f t k)) → AroundHolding (if lists then Some f else None)
  around_holds true f r = r
  around_holds false f r = tt

  front : (a b : Bool) → Given admitted (a && b) → Given admitted a
  front a b h = given_left admitted a b h

  back : (a b : Bool) → Given admitted (a && b) → Given admitted b
  back a b h = given_right admitted a b h

  mutual
    pub of_flats : Cases → (w : StrategyData) → Allowed (flats w) → Given admitted (is_admitted w) → (t : Ty) → P t (plan s w t)
    of_flats g (flat o) h a t = g.flat_case o (h o (inl refl)) t
    of_flats g (chunked w) h a t = g.chunked_case t (plan s w t) (of_flats g w h a t)
    of_flats g (grouped r w) h a t = g.grouped_case r t (plan s w t) (of_flats g w h (back (is_admitted_grouping r) (is_admitted w) a) t)
    of_flats g (compressed which room w) h a t = g.compressed_case which room t (plan s w t) (of_flats g w h (back (nat_lt 0 room) (is_admitted w) a) t)
    of_flats g (coded o c v f) h a t =
        let r : Allowed (flats v ++ flats f) = right (flats c) (flats v ++ flats f) h in
        let b : Given admitted (is_admitted v && is_admitted f) = back (is_admitted c) (is_admitted v && is_admitted f) a in
        dict_holds g o (plan s c) (plan s v) (plan s f) (of_flats g c (left (flats c) (flats v ++ flats f) h) (front (is_admitted c) (is_admitted v && is_admitted f) a))
        (of_flats g v (left (flats v) (flats f) r) (front (is_admitted v) (is_admitted f) b)) (of_flats g f (right (flats v) (flats f) r) (back (is_admitted v) (is_admitted f) b)) t
    of_flats g (zoned o w stats) h a t =
        let b : Given admitted (is_admitted w && is_admitted stats) = back (is_admitted_zoned o) (is_admitted w && is_admitted stats) a in
        g.zoned_case o (front (is_admitted_zoned o) (is_admitted w && is_admitted stats) a) t (plan s w t) (plan s stats)
        (of_flats g w (left (flats w) (flats stats) h) (front (is_admitted w) (is_admitted stats) b) t) (of_flats g stats (right (flats w) (flats stats) h) (back (is_admitted w) (is_admitted stats) b))
    of_flats g (structured v d ws) h a t =
        let r : Allowed (flats d ++ named_flats ws) = right (flats v) (flats d ++ named_flats ws) h in
        let b : Given admitted (is_admitted d && are_admitted ws) = back (is_admitted v) (is_admitted d && are_admitted ws) a in
        struct_holds g (plan s v) (plan s d) (walk_named (plan_nodes s) ws) (of_flats g v (left (flats v) (flats d ++ named_flats ws) h) (front (is_admitted v) (is_admitted d && are_admitted ws) a))
        (of_flats g d (left (flats d) (named_flats ws) r) (front (is_admitted d) (are_admitted ws) b))
        (named_of_flats g ws (right (flats d) (named_flats ws) r) (back (is_admitted d) (are_admitted ws) b)) t
    of_flats g (listed e o v f) h a t =
        let r : Allowed (flats o ++ (flats v ++ flats f)) = right (flats e) (flats o ++ (flats v ++ flats f)) h in
        let q : Allowed (flats v ++ flats f) = right (flats o) (flats v ++ flats f) r in
        let b : Given admitted (is_admitted o && (is_admitted v && is_admitted f)) = back (is_admitted e) (is_admitted o && (is_admitted v && is_admitted f)) a in
        let c : Given admitted (is_admitted v && is_admitted f) = back (is_admitted o) (is_admitted v && is_admitted f) b in
        list_holds g (plan s e) (plan s o) (plan s v) (plan s f)
        (of_flats g e (left (flats e) (flats o ++ (flats v ++ flats f)) h) (front (is_admitted e) (is_admitted o && (is_admitted v && is_admitted f)) a))
        (of_flats g o (left (flats o) (flats v ++ flats f) r) (front (is_admitted o) (is_admitted v && is_admitted f) b))
        (of_flats g v (left (flats v) (flats f) q) (front (is_admitted v) (is_admitted f) c)) (of_flats g f (right (flats v) (flats f) q) (back (is_admitted v) (is_admitted f) c)) t
    of_flats g (tabled v l ws lists wraps) h a t =
        let r : Allowed (flats l ++ (named_flats ws ++ wrap_flats wraps)) = right (flats v) (flats l ++ (named_flats ws ++ wrap_flats wraps)) h in
        let q : Allowed (named_flats ws ++ wrap_flats wraps) = right (flats l) (named_flats ws ++ wrap_flats wraps) r in
        let b : Given admitted (is_admitted l && (are_apart ws && (are_admitted ws && wraps_admitted wraps))) = back (is_admitted v) (is_admitted l && (are_apart ws && (are_admitted ws && wraps_admitted wraps))) a in
        let c : Given admitted (are_admitted ws && wraps_admitted wraps) =
        back (are_apart ws) (are_admitted ws && wraps_admitted wraps) (back (is_admitted l) (are_apart ws && (are_admitted ws && wraps_admitted wraps)) b) in
        table_holds g (plan s v) (plan s l) (if lists then Some (walk_wraps (plan_nodes s) wraps) else None)
        (of_flats g v (left (flats v) (flats l ++ (named_flats ws ++ wrap_flats wraps)) h) (front (is_admitted v) (is_admitted l && (are_apart ws && (are_admitted ws && wraps_admitted wraps))) a))
        (of_flats g l (left (flats l) (named_flats ws ++ wrap_flats wraps) r) (front (is_admitted l) (are_apart ws && (are_admitted ws && wraps_admitted wraps)) b))
        (around_holds lists (walk_wraps (plan_nodes s) wraps) (wraps_of_flats g wraps (right (named_flats ws) (wrap_flats wraps) q) (back (are_admitted ws) (wraps_admitted wraps) c)))
        (walk_named (plan_nodes s) ws) (named_of_flats g ws (left (named_flats ws) (wrap_flats wraps) q) (front (are_admitted ws) (wraps_admitted wraps) c)) [] t

    named_of_flats : Cases → (ws : StrategyList) → Allowed (named_flats ws) → Given admitted (are_admitted ws) → AllHolding (walk_named (plan_nodes s) ws)
    named_of_flats g no_ways h a = tt
    named_of_flats g (way_at path w ws) h a = (
      of_flats g w (left (flats w) (named_flats ws) h) (front (is_admitted w) (are_admitted ws) a),
      named_of_flats g ws (right (flats w) (named_flats ws) h) (back (is_admitted w) (are_admitted ws) a),
    )

    wraps_of_flats : Cases → (ws : Wraps) → Allowed (wrap_flats ws) → Given admitted (wraps_admitted ws) → (t : Ty) (k : Node) → P t k → P t (walk_wraps (plan_nodes s) ws t k)
    wraps_of_flats g no_wraps h a t k p = p
    wraps_of_flats g (wrap_grouped r ws) h a t k p =
        g.grouped_case r t (walk_wraps (plan_nodes s) ws t k) (wraps_of_flats g ws h (back (is_admitted_grouping r) (wraps_admitted ws) a) t k p)
    wraps_of_flats g (wrap_zoned o stats ws) h a t k p =
        let b : Given admitted (is_admitted stats && wraps_admitted ws) = back (is_admitted_zoned o) (is_admitted stats && wraps_admitted ws) a in
        g.zoned_case o (front (is_admitted_zoned o) (is_admitted stats && wraps_admitted ws) a) t (walk_wraps (plan_nodes s) ws t k) (plan s stats)
        (wraps_of_flats g ws (right (flats stats) (wrap_flats ws) h) (back (is_admitted stats) (wraps_admitted ws) b) t k p) (of_flats g stats (left (flats stats) (wrap_flats ws) h) (front (is_admitted stats) (wraps_admitted ws) b))
