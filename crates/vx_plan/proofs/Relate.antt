-- One induction over the walk, for all laws.
use Rattle.std.proofs.Common.{◌≡◌, ℕ, Bool, true, false, List, [], ◌∷◌, ◌++◌, Option, Some, None, refl, sym, subst}
use Rattle.std.specs.Prelude.{if◌then◌else◌, ◌&&◌, nat_lt}
use Rattle.std.proofs.lemmas.Bool.{true≢false}
use Rattle.vx_model.specs.Ty.{Ty, Tys, boolean, primitive, utf8, binary, list, struct, extension, no_fields, field}
use Rattle.vx_model.specs.ChunkData.{is_dict_type}
use Rattle.vx_rules.specs.Columns.{offset_type}
use Rattle.vx_rules.specs.Runs.{DictOptions, code_type}
use Rattle.vx_plan.specs.PlanData.{Setting, Node}
use Rattle.vx_strategy_spec.specs.StrategyData.{StrategyData, StrategyList, Wraps, FlatOptions, ZonedOptions, Grouping, flat, chunked, grouped, compressed, coded, zoned, structured, listed, tabled, no_ways, way_at, no_wraps, wrap_grouped, wrap_zoned}
use Rattle.vx_strategy_spec.specs.Admitted.{is_admitted, are_admitted, wraps_admitted, are_apart, is_admitted_grouping, is_admitted_zoned}
use Rattle.vx_strategy_spec.specs.Walk.{Nodes, Named, Around, same_names, find, duplicate, chosen, field_nodes, of_struct, of_list, of_dict, in_lists, of_table, of_tables, walk, walk_named, walk_wraps}
use Rattle.vx_plan.specs.FlatNode.{flat_node}
use Rattle.vx_plan.specs.ChunkedNode.{chunked_node}
use Rattle.vx_plan.specs.GroupNode.{grouped_node, compressed_node}
use Rattle.vx_plan.specs.DictNode.{dict_node}
use Rattle.vx_plan.specs.ZonedNode.{zoned_node}
use Rattle.vx_plan.specs.ColumnNodes.{not_struct_node, struct_node, list_node}
use Rattle.vx_plan.specs.SourcePlan.{plan, plan_nodes}

-- where the strategy is admitted, this is
abbrev pub Given : Bool → Bool → Type 0
Given admitted b = admitted ≡ true → b ≡ true

pub given_left : (admitted a b : Bool) → Given admitted (a && b) → Given admitted a
given_left admitted true b h e = refl
given_left admitted false b h e = h e

pub given_right : (admitted a b : Bool) → Given admitted (a && b) → Given admitted b
given_right admitted true b h e = h e
given_right admitted false b h e = absurd (true≢false (sym (h e)))

-- what is made of each field, two ways
abbrev pub Both : {A B : Type 0} → (Ty → A → B → Type 0) → Tys → List A → List B → Type 0
Both P no_fields [] [] = Unit {0}
Both P (field name t fs) (k ∷ ks) (l ∷ ls) = P t k l × Both P fs ks ls
Both P fs ks ls = ⊥

-- Two readings of a strategy agree where they agree at each node, `admitted` saying whether the options are known to be
-- such as constructors make.
module _ (A B : Type 0) (a : Nodes A) (b : Nodes B) (admitted : Bool) (P : Ty → A → B → Type 0) where
  pub record Agree : Type 0 where
    pub at_flat : (o : FlatOptions) (t : Ty) → P t (a.on_flat o t) (b.on_flat o t)
    pub at_chunked : (t : Ty) (k : A) (l : B) → P t k l → P t (a.on_chunked t k) (b.on_chunked t l)
    pub at_grouped : (g : Grouping) → Given admitted (is_admitted_grouping g) → (t : Ty) (k : A) (l : B) → P t k l → P t (a.on_grouped g t k) (b.on_grouped g t l)
    pub at_compressed : (which room : ℕ) → Given admitted (nat_lt 0 room) → (t : Ty) (k : A) (l : B) → P t k l → P t (a.on_compressed which room t k) (b.on_compressed which room t l)
    pub at_dict : (o : DictOptions) (t : Ty) → is_dict_type t ≡ true → (c v f : A) (d w g : B) → P (code_type o) c d → P t v w → P t f g
        → P t (a.on_dict o t c v f) (b.on_dict o t d w g)
    pub at_zoned : (o : ZonedOptions) → Given admitted (is_admitted_zoned o) → (t : Ty) (k : A) (l : B) (f : Ty → A) (g : Ty → B) → P t k l → ((u : Ty) → P u (f u) (g u)) → P t (a.on_zoned o t k f) (b.on_zoned o t l g)
    pub at_not_struct : (t : Ty) → P t (a.on_not_struct t) (b.on_not_struct t)
    pub at_struct : (fs : Tys) (n : Bool) (dup : Option (List ℕ)) (v : A) (w : B) (ks : List A) (ls : List B)
        → P (boolean false) v w → Both P fs ks ls → P (struct fs n) (a.on_struct fs n dup v ks) (b.on_struct fs n dup w ls)
    pub at_list : (t : Ty) (n : Bool) (e o v : A) (f p w : B) → P t e f → P offset_type o p → P (boolean false) v w
        → P (list t n) (a.on_list t n e o v) (b.on_list t n f p w)

  -- at every type
  abbrev pub Alike : (Ty → A) → (Ty → B) → Type 0
  Alike f g = (t : Ty) → P t (f t) (g t)

  abbrev pub AllAlike : Named A → Named B → Type 0
  AllAlike [] [] = Unit {0}
  AllAlike [] (w ∷ ws) = ⊥
  AllAlike (v ∷ vs) [] = ⊥
  AllAlike (v ∷ vs) (w ∷ ws) = (v.0 ≡ w.0) × Alike v.1 w.1 × AllAlike vs ws

  found : (path : List (List ℕ)) (vs : Named A) (ws : Named B) → AllAlike vs ws → (t : Ty) (k : A) (l : B) → P t k l
      → P t (chosen (find path vs) t k) (chosen (find path ws) t l)
  found path [] [] h t k l p = p
  found path [] (w ∷ ws) h t k l p = absurd h
  found path (v ∷ vs) [] h t k l p = absurd h
  found path (v ∷ vs) (w ∷ ws) h t k l p =
      subst (λ z. P t (chosen (find path (v ∷ vs)) t k) (chosen (if same_names path z then Some w.1 else find path ws) t l)) h.0
      (go (same_names path v.0) (found path vs ws h.2 t k l p))
    where
      go : (b : Bool) → P t (chosen (find path vs) t k) (chosen (find path ws) t l)
          → P t (chosen (if b then Some v.1 else find path vs) t k) (chosen (if b then Some w.1 else find path ws) t l)
      go true r = h.1 t
      go false r = r

  fields_alike : (d : Ty → A) (e : Ty → B) (vs : Named A) (ws : Named B) → Alike d e → AllAlike vs ws → (fs : Tys) → Both P fs (field_nodes d vs fs) (field_nodes e ws fs)
  fields_alike d e vs ws h all no_fields = tt
  fields_alike d e vs ws h all (field name t fs) = (found (name ∷ []) vs ws all t (d t) (e t) (h t), fields_alike d e vs ws h all fs)

  struct_alike : Agree → (v : Ty → A) (w : Ty → B) (d : Ty → A) (e : Ty → B) (vs : Named A) (ws : Named B) → Alike v w → Alike d e → AllAlike vs ws
      → (t : Ty) → P t (of_struct a v d vs t) (of_struct b w e ws t)
  struct_alike g v w d e vs ws x y all (struct fs n) =
      g.at_struct fs n (duplicate fs) (v (boolean false)) (w (boolean false)) (field_nodes d vs fs) (field_nodes e ws fs) (x (boolean false)) (fields_alike d e vs ws y all fs)
  struct_alike g v w d e vs ws x y all (boolean n) = g.at_not_struct (boolean n)
  struct_alike g v w d e vs ws x y all (primitive p n) = g.at_not_struct (primitive p n)
  struct_alike g v w d e vs ws x y all (utf8 n) = g.at_not_struct (utf8 n)
  struct_alike g v w d e vs ws x y all (binary n) = g.at_not_struct (binary n)
  struct_alike g v w d e vs ws x y all (list t n) = g.at_not_struct (list t n)
  struct_alike g v w d e vs ws x y all (extension tag t) = g.at_not_struct (extension tag t)

  list_alike : Agree → (e o v f : Ty → A) (e' o' v' f' : Ty → B) → Alike e e' → Alike o o' → Alike v v' → Alike f f' → (t : Ty) → P t (of_list a e o v f t) (of_list b e' o' v' f' t)
  list_alike g e o v f e' o' v' f' x y z w (list t n) = g.at_list t n (e t) (o offset_type) (v (boolean false)) (e' t) (o' offset_type) (v' (boolean false)) (x t) (y offset_type) (z (boolean false))
  list_alike g e o v f e' o' v' f' x y z w (boolean n) = w (boolean n)
  list_alike g e o v f e' o' v' f' x y z w (primitive p n) = w (primitive p n)
  list_alike g e o v f e' o' v' f' x y z w (utf8 n) = w (utf8 n)
  list_alike g e o v f e' o' v' f' x y z w (binary n) = w (binary n)
  list_alike g e o v f e' o' v' f' x y z w (struct fs n) = w (struct fs n)
  list_alike g e o v f e' o' v' f' x y z w (extension tag t) = w (extension tag t)

  dict_alike : Agree → (o : DictOptions) (c v f : Ty → A) (d w h : Ty → B) → Alike c d → Alike v w → Alike f h → (t : Ty) → P t (of_dict a o c v f t) (of_dict b o d w h t)
  dict_alike g o c v f d w h x y z t = go (is_dict_type t) refl
    where
      go : (is : Bool) → is_dict_type t ≡ is → P t (if is then a.on_dict o t (c (code_type o)) (v t) (f t) else f t) (if is then b.on_dict o t (d (code_type o)) (w t) (h t) else h t)
      go true e = g.at_dict o t e (c (code_type o)) (v t) (f t) (d (code_type o)) (w t) (h t) (x (code_type o)) (y t) (z t)
      go false e = z t

  abbrev pub AroundAlike : Around A → Around B → Type 0
  AroundAlike None None = Unit {0}
  AroundAlike (Some f) (Some g) = (t : Ty) (k : A) (l : B) → P t k l → P t (f t k) (g t l)
  AroundAlike f g = ⊥

  lists_alike : (f : Around A) (h : Around B) → AroundAlike f h → (t : Ty) (x : A) (y : B) (k : A) (l : B) → P t x y → P t k l → P t (in_lists f t x k) (in_lists h t y l)
  lists_alike None None r t x y k l p q = p
  lists_alike None (Some h) r t x y k l p q = absurd r
  lists_alike (Some f) None r t x y k l p q = absurd r
  lists_alike (Some f) (Some h) r t x y k l p q = r t k l q

  mutual
    table_alike : Agree → (v : Ty → A) (w : Ty → B) (d : Ty → A) (e : Ty → B) (f : Around A) (h : Around B) → Alike v w → Alike d e → AroundAlike f h
        → (vs : Named A) (ws : Named B) → AllAlike vs ws → (walked : List (List ℕ)) (t : Ty) → P t (of_table a v d f vs walked t) (of_table b w e h ws walked t)
    table_alike g v w d e f h x y r vs ws all walked (struct fs n) =
        g.at_struct fs n (duplicate fs) (v (boolean false)) (w (boolean false)) (of_tables a v d f vs walked fs) (of_tables b w e h ws walked fs) (x (boolean false))
        (tables_alike g v w d e f h x y r vs ws all walked fs)
    table_alike g v w d e f h x y r vs ws all walked (list t n) =
        lists_alike f h r (list t n) (d (list t n)) (e (list t n))
        (a.on_list t n (of_table a v d f [] [] t) (d offset_type) (v (boolean false))) (b.on_list t n (of_table b w e h [] [] t) (e offset_type) (w (boolean false)))
        (y (list t n))
        (g.at_list t n (of_table a v d f [] [] t) (d offset_type) (v (boolean false)) (of_table b w e h [] [] t) (e offset_type) (w (boolean false))
        (table_alike g v w d e f h x y r [] [] tt [] t) (y offset_type) (x (boolean false)))
    table_alike g v w d e f h x y r vs ws all walked (boolean n) = y (boolean n)
    table_alike g v w d e f h x y r vs ws all walked (primitive p n) = y (primitive p n)
    table_alike g v w d e f h x y r vs ws all walked (utf8 n) = y (utf8 n)
    table_alike g v w d e f h x y r vs ws all walked (binary n) = y (binary n)
    table_alike g v w d e f h x y r vs ws all walked (extension tag t) = y (extension tag t)

    tables_alike : Agree → (v : Ty → A) (w : Ty → B) (d : Ty → A) (e : Ty → B) (f : Around A) (h : Around B) → Alike v w → Alike d e → AroundAlike f h
        → (vs : Named A) (ws : Named B) → AllAlike vs ws → (walked : List (List ℕ)) (fs : Tys) → Both P fs (of_tables a v d f vs walked fs) (of_tables b w e h ws walked fs)
    tables_alike g v w d e f h x y r vs ws all walked no_fields = tt
    tables_alike g v w d e f h x y r vs ws all walked (field name t fs) = (
      found (walked ++ (name ∷ [])) vs ws all t (of_table a v d f vs (walked ++ (name ∷ [])) t) (of_table b w e h ws (walked ++ (name ∷ [])) t)
          (table_alike g v w d e f h x y r vs ws all (walked ++ (name ∷ [])) t),
      tables_alike g v w d e f h x y r vs ws all walked fs,
    )

  around_alike : (lists : Bool) (f : Ty → A → A) (h : Ty → B → B) → ((t : Ty) (k : A) (l : B) → P t k l → P t (f t k) (h t l))
      → AroundAlike (if lists then Some f else None) (if lists then Some h else None)
  around_alike true f h r = r
  around_alike false f h r = tt

  mutual
    pub relate : Agree → (w : StrategyData) → Given admitted (is_admitted w) → (t : Ty) → P t (walk a w t) (walk b w t)
    relate g (flat o) h t = g.at_flat o t
    relate g (chunked w) h t = g.at_chunked t (walk a w t) (walk b w t) (relate g w h t)
    relate g (grouped r w) h t =
        g.at_grouped r (given_left admitted (is_admitted_grouping r) (is_admitted w) h) t (walk a w t) (walk b w t) (relate g w (given_right admitted (is_admitted_grouping r) (is_admitted w) h) t)
    relate g (compressed which room w) h t =
        g.at_compressed which room (given_left admitted (nat_lt 0 room) (is_admitted w) h) t (walk a w t) (walk b w t) (relate g w (given_right admitted (nat_lt 0 room) (is_admitted w) h) t)
    relate g (coded o c v f) h t =
        let r : Given admitted (is_admitted v && is_admitted f) = given_right admitted (is_admitted c) (is_admitted v && is_admitted f) h in
        dict_alike g o (walk a c) (walk a v) (walk a f) (walk b c) (walk b v) (walk b f) (relate g c (given_left admitted (is_admitted c) (is_admitted v && is_admitted f) h))
        (relate g v (given_left admitted (is_admitted v) (is_admitted f) r)) (relate g f (given_right admitted (is_admitted v) (is_admitted f) r)) t
    relate g (zoned o w stats) h t =
        let r : Given admitted (is_admitted w && is_admitted stats) = given_right admitted (is_admitted_zoned o) (is_admitted w && is_admitted stats) h in
        g.at_zoned o (given_left admitted (is_admitted_zoned o) (is_admitted w && is_admitted stats) h) t (walk a w t) (walk b w t) (walk a stats) (walk b stats)
        (relate g w (given_left admitted (is_admitted w) (is_admitted stats) r) t) (relate g stats (given_right admitted (is_admitted w) (is_admitted stats) r))
    relate g (structured v d ws) h t =
        let r : Given admitted (is_admitted d && are_admitted ws) = given_right admitted (is_admitted v) (is_admitted d && are_admitted ws) h in
        struct_alike g (walk a v) (walk b v) (walk a d) (walk b d) (walk_named a ws) (walk_named b ws) (relate g v (given_left admitted (is_admitted v) (is_admitted d && are_admitted ws) h))
        (relate g d (given_left admitted (is_admitted d) (are_admitted ws) r)) (relate_named g ws (given_right admitted (is_admitted d) (are_admitted ws) r)) t
    relate g (listed e o v f) h t =
        let r : Given admitted (is_admitted o && (is_admitted v && is_admitted f)) = given_right admitted (is_admitted e) (is_admitted o && (is_admitted v && is_admitted f)) h in
        let q : Given admitted (is_admitted v && is_admitted f) = given_right admitted (is_admitted o) (is_admitted v && is_admitted f) r in
        list_alike g (walk a e) (walk a o) (walk a v) (walk a f) (walk b e) (walk b o) (walk b v) (walk b f) (relate g e (given_left admitted (is_admitted e) (is_admitted o && (is_admitted v && is_admitted f)) h))
        (relate g o (given_left admitted (is_admitted o) (is_admitted v && is_admitted f) r)) (relate g v (given_left admitted (is_admitted v) (is_admitted f) q))
        (relate g f (given_right admitted (is_admitted v) (is_admitted f) q)) t
    relate g (tabled v l ws lists wraps) h t =
        let r : Given admitted (is_admitted l && (are_apart ws && (are_admitted ws && wraps_admitted wraps))) =
        given_right admitted (is_admitted v) (is_admitted l && (are_apart ws && (are_admitted ws && wraps_admitted wraps))) h in
        let q : Given admitted (are_admitted ws && wraps_admitted wraps) =
        given_right admitted (are_apart ws) (are_admitted ws && wraps_admitted wraps) (given_right admitted (is_admitted l) (are_apart ws && (are_admitted ws && wraps_admitted wraps)) r) in
        table_alike g (walk a v) (walk b v) (walk a l) (walk b l) (if lists then Some (walk_wraps a wraps) else None) (if lists then Some (walk_wraps b wraps) else None)
        (relate g v (given_left admitted (is_admitted v) (is_admitted l && (are_apart ws && (are_admitted ws && wraps_admitted wraps))) h))
        (relate g l (given_left admitted (is_admitted l) (are_apart ws && (are_admitted ws && wraps_admitted wraps)) r))
        (around_alike lists (walk_wraps a wraps) (walk_wraps b wraps) (relate_wraps g wraps (given_right admitted (are_admitted ws) (wraps_admitted wraps) q)))
        (walk_named a ws) (walk_named b ws) (relate_named g ws (given_left admitted (are_admitted ws) (wraps_admitted wraps) q)) [] t

    relate_named : Agree → (ws : StrategyList) → Given admitted (are_admitted ws) → AllAlike (walk_named a ws) (walk_named b ws)
    relate_named g no_ways h = tt
    relate_named g (way_at path w ws) h =
        (refl, relate g w (given_left admitted (is_admitted w) (are_admitted ws) h), relate_named g ws (given_right admitted (is_admitted w) (are_admitted ws) h))

    relate_wraps : Agree → (ws : Wraps) → Given admitted (wraps_admitted ws) → (t : Ty) (k : A) (l : B) → P t k l → P t (walk_wraps a ws t k) (walk_wraps b ws t l)
    relate_wraps g no_wraps h t k l p = p
    relate_wraps g (wrap_grouped r ws) h t k l p =
        g.at_grouped r (given_left admitted (is_admitted_grouping r) (wraps_admitted ws) h) t (walk_wraps a ws t k) (walk_wraps b ws t l)
        (relate_wraps g ws (given_right admitted (is_admitted_grouping r) (wraps_admitted ws) h) t k l p)
    relate_wraps g (wrap_zoned o stats ws) h t k l p =
        let r : Given admitted (is_admitted stats && wraps_admitted ws) = given_right admitted (is_admitted_zoned o) (is_admitted stats && wraps_admitted ws) h in
        g.at_zoned o (given_left admitted (is_admitted_zoned o) (is_admitted stats && wraps_admitted ws) h) t (walk_wraps a ws t k) (walk_wraps b ws t l) (walk a stats) (walk b stats)
        (relate_wraps g ws (given_right admitted (is_admitted stats) (wraps_admitted ws) r) t k l p) (relate g stats (given_left admitted (is_admitted stats) (wraps_admitted ws) r))

-- each field's node
abbrev pub Fields : (Ty → Node → Type 0) → Tys → List Node → Type 0
Fields P no_fields [] = Unit {0}
Fields P no_fields (k ∷ ks) = ⊥
Fields P (field name t fs) [] = ⊥
Fields P (field name t fs) (k ∷ ks) = P t k × Fields P fs ks

-- What holds of each node, from its children's, holds of every plan.
module _ (s : Setting) (admitted : Bool) (P : Ty → Node → Type 0) where
  pub record Cases : Type 0 where
    pub flat_case : (o : FlatOptions) (t : Ty) → P t (flat_node s o t)
    pub chunked_case : (t : Ty) (k : Node) → P t k → P t (chunked_node t k)
    pub grouped_case : (g : Grouping) → Given admitted (is_admitted_grouping g) → (t : Ty) (k : Node) → P t k → P t (grouped_node g t k)
    pub compressed_case : (which room : ℕ) → Given admitted (nat_lt 0 room) → (t : Ty) (k : Node) → P t k → P t (compressed_node s which room t k)
    pub dict_case : (o : DictOptions) (t : Ty) → is_dict_type t ≡ true → (c v f : Node) → P (code_type o) c → P t v → P t f → P t (dict_node s o t c v f)
    pub zoned_case : (o : ZonedOptions) → Given admitted (is_admitted_zoned o) → (t : Ty) (k : Node) (f : Ty → Node) → P t k → ((u : Ty) → P u (f u)) → P t (zoned_node s o t k f)
    pub not_struct_case : (t : Ty) → P t (not_struct_node t)
    pub struct_case : (fs : Tys) (n : Bool) (dup : Option (List ℕ)) (v : Node) (ks : List Node) → P (boolean false) v → Fields P fs ks → P (struct fs n) (struct_node fs n dup v ks)
    pub list_case : (t : Ty) (n : Bool) (e o v : Node) → P t e → P offset_type o → P (boolean false) v → P (list t n) (list_node t n e o v)

  unit_nodes : Nodes (Unit {0})
  unit_nodes = record {
    on_flat = λ o t. tt;
    on_chunked = λ t k. tt;
    on_grouped = λ g t k. tt;
    on_compressed = λ which room t k. tt;
    on_dict = λ o t c v f. tt;
    on_zoned = λ o t k f. tt;
    on_not_struct = λ t. tt;
    on_struct = λ fs n dup v ks. tt;
    on_list = λ t n e o v. tt;
  }

  one_side : (fs : Tys) (ks : List Node) (us : List (Unit {0})) → Both (λ t k (u : Unit {0}). P t k) fs ks us → Fields P fs ks
  one_side no_fields [] [] h = tt
  one_side no_fields [] (u ∷ us) h = absurd h
  one_side no_fields (k ∷ ks) us h = absurd h
  one_side (field name t fs) [] us h = absurd h
  one_side (field name t fs) (k ∷ ks) [] h = absurd h
  one_side (field name t fs) (k ∷ ks) (u ∷ us) h = (h.0, one_side fs ks us h.1)

  pub induct : Cases → (w : StrategyData) → Given admitted (is_admitted w) → (t : Ty) → P t (plan s w t)
  induct cases = relate Node (Unit {0}) (plan_nodes s) unit_nodes admitted (λ t k u. P t k) (record {
    at_flat = λ o t. cases.flat_case o t;
    at_chunked = λ t k l h. cases.chunked_case t k h;
    at_grouped = λ g a t k l h. cases.grouped_case g a t k h;
    at_compressed = λ which room a t k l h. cases.compressed_case which room a t k h;
    at_dict = λ o t is c v f d w g x y z. cases.dict_case o t is c v f x y z;
    at_zoned = λ o a t k l f g h hs. cases.zoned_case o a t k f h hs;
    at_not_struct = λ t. cases.not_struct_case t;
    at_struct = λ fs n dup v w ks ls h hs. cases.struct_case fs n dup v ks h (one_side fs ks ls hs);
    at_list = λ t n e o v f p w x y z. cases.list_case t n e o v x y z;
  })
