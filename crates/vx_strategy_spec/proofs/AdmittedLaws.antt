-- What an admitted table stands for is admitted.
use Rattle.std.proofs.Common.{◌≡◌, ℕ, ◌&&◌, Bool, true, false, not, bytes_eq, List, [], ◌∷◌, Option, Some, None, refl, sym, subst}
use Rattle.std.specs.Prelude.{if◌then◌else◌}
use Rattle.std.proofs.lemmas.Bool.{true≢false, and_from, and_parts}
use Rattle.std.specs.Cmp.Lexicographic.{bytes_decides}
use Rattle.vx_model.specs.Ty.{Ty, Tys, boolean, primitive, utf8, binary, list, struct, extension, no_fields, field}
use Rattle.vx_strategy_spec.specs.StrategyData.{StrategyData, StrategyList, Wraps, flat, chunked, grouped, compressed, coded, zoned, structured, listed, tabled, no_ways, way_at, no_wraps, wrap_grouped, wrap_zoned}
use Rattle.vx_strategy_spec.specs.Admitted.{overlaps, overlaps_none, are_apart, is_admitted, are_admitted, wraps_admitted, is_admitted_grouping, is_admitted_zoned}
use Rattle.vx_strategy_spec.specs.Dispatch.{override, below, given_or, field_writer, field_writers, wrapped, dispatch}

-- ---- overrides

pub below_admitted : (name : List ℕ) (ws : StrategyList) → are_admitted ws ≡ true → are_admitted (below name ws) ≡ true
below_admitted name no_ways h = refl
below_admitted name (way_at [] w ws) h = below_admitted name ws (and_parts (is_admitted w) (are_admitted ws) h).1
below_admitted name (way_at (a ∷ []) w ws) h = below_admitted name ws (and_parts (is_admitted w) (are_admitted ws) h).1
below_admitted name (way_at (a ∷ b ∷ path) w ws) h = go (bytes_eq name a) (below_admitted name ws (and_parts (is_admitted w) (are_admitted ws) h).1)
  where
    go : (x : Bool) → are_admitted (below name ws) ≡ true → are_admitted (if x then way_at (b ∷ path) w (below name ws) else below name ws) ≡ true
    go true r = and_from (is_admitted w) (are_admitted (below name ws)) (and_parts (is_admitted w) (are_admitted ws) h).0 r
    go false r = r

abbrev AdmittedIf : Option StrategyData → Type 0
AdmittedIf None = Unit {0}
AdmittedIf (Some w) = is_admitted w ≡ true

override_admitted : (name : List ℕ) (ws : StrategyList) → are_admitted ws ≡ true → AdmittedIf (override name ws)
override_admitted name no_ways h = tt
override_admitted name (way_at [] w ws) h = override_admitted name ws (and_parts (is_admitted w) (are_admitted ws) h).1
override_admitted name (way_at (a ∷ []) w ws) h = go (bytes_eq name a) (override_admitted name ws (and_parts (is_admitted w) (are_admitted ws) h).1)
  where
    go : (x : Bool) → AdmittedIf (override name ws) → AdmittedIf (if x then Some w else override name ws)
    go true r = (and_parts (is_admitted w) (are_admitted ws) h).0
    go false r = r
override_admitted name (way_at (a ∷ b ∷ path) w ws) h = override_admitted name ws (and_parts (is_admitted w) (are_admitted ws) h).1

-- ---- paths that don't overlap

no_clash : (x : Bool) (a c : List ℕ) (p q : List (List ℕ)) → a ≡ c → not (overlaps (a ∷ p) (c ∷ q)) ≡ true → not (overlaps p q) ≡ true
no_clash x a c p q e h =
    let same : bytes_eq a c ≡ true = (bytes_decides a c).1 e in
    subst (λ b. not (b && overlaps p q) ≡ true) same h

below_apart_from : (name b : List ℕ) (path : List (List ℕ)) (ws : StrategyList) → overlaps_none (name ∷ b ∷ path) ws ≡ true → overlaps_none (b ∷ path) (below name ws) ≡ true
below_apart_from name b path no_ways h = refl
below_apart_from name b path (way_at [] w ws) h = absurd (true≢false (sym h))
below_apart_from name b path (way_at (c ∷ []) w ws) h = below_apart_from name b path ws (and_parts (not (overlaps (name ∷ b ∷ path) (c ∷ []))) (overlaps_none (name ∷ b ∷ path) ws) h).1
below_apart_from name b path (way_at (c ∷ d ∷ q) w ws) h =
    go (bytes_eq name c) refl (below_apart_from name b path ws (and_parts (not (overlaps (name ∷ b ∷ path) (c ∷ d ∷ q))) (overlaps_none (name ∷ b ∷ path) ws) h).1)
  where
    go : (x : Bool) → bytes_eq name c ≡ x → overlaps_none (b ∷ path) (below name ws) ≡ true → overlaps_none (b ∷ path) (if x then way_at (d ∷ q) w (below name ws) else below name ws) ≡ true
    go true e r =
        and_from (not (overlaps (b ∷ path) (d ∷ q))) (overlaps_none (b ∷ path) (below name ws))
        (no_clash true name c (b ∷ path) (d ∷ q) ((bytes_decides name c).0 e) (and_parts (not (overlaps (name ∷ b ∷ path) (c ∷ d ∷ q))) (overlaps_none (name ∷ b ∷ path) ws) h).0) r
    go false e r = r

pub below_apart : (name : List ℕ) (ws : StrategyList) → are_apart ws ≡ true → are_apart (below name ws) ≡ true
below_apart name no_ways h = refl
below_apart name (way_at [] w ws) h = absurd (true≢false (sym h))
below_apart name (way_at (a ∷ []) w ws) h = below_apart name ws (and_parts (overlaps_none (a ∷ []) ws) (are_apart ws) h).1
below_apart name (way_at (a ∷ b ∷ path) w ws) h = go (bytes_eq name a) refl (below_apart name ws (and_parts (overlaps_none (a ∷ b ∷ path) ws) (are_apart ws) h).1)
  where
    go : (x : Bool) → bytes_eq name a ≡ x → are_apart (below name ws) ≡ true → are_apart (if x then way_at (b ∷ path) w (below name ws) else below name ws) ≡ true
    go true e r =
        and_from (overlaps_none (b ∷ path) (below name ws)) (are_apart (below name ws))
        (below_apart_from name b path ws (subst (λ z. overlaps_none (z ∷ b ∷ path) ws ≡ true) (sym ((bytes_decides name a).0 e)) (and_parts (overlaps_none (a ∷ b ∷ path) ws) (are_apart ws) h).0)) r
    go false e r = r

-- ---- tables

pub record Table (v l : StrategyData) (ws : StrategyList) (wraps : Wraps) : Type 0 where
  pub validity : is_admitted v ≡ true
  pub leaf : is_admitted l ≡ true
  pub apart : are_apart ws ≡ true
  pub overrides : are_admitted ws ≡ true
  pub wrappers : wraps_admitted wraps ≡ true

table_of : (v l : StrategyData) (ws : StrategyList) (lists : Bool) (wraps : Wraps) → is_admitted (tabled v l ws lists wraps) ≡ true → Table v l ws wraps
table_of v l ws lists wraps h =
    let a : (is_admitted l && (are_apart ws && (are_admitted ws && wraps_admitted wraps))) ≡ true = (and_parts (is_admitted v) _ h).1 in
    let b : (are_apart ws && (are_admitted ws && wraps_admitted wraps)) ≡ true = (and_parts (is_admitted l) _ a).1 in
    let c : (are_admitted ws && wraps_admitted wraps) ≡ true = (and_parts (are_apart ws) _ b).1 in
    record { validity = (and_parts (is_admitted v) _ h).0; leaf = (and_parts (is_admitted l) _ a).0; apart = (and_parts (are_apart ws) _ b).0; overrides = (and_parts (are_admitted ws) _ c).0; wrappers = (and_parts (are_admitted ws) _ c).1 }

of_table : (v l : StrategyData) (ws : StrategyList) (lists : Bool) (wraps : Wraps) → Table v l ws wraps → is_admitted (tabled v l ws lists wraps) ≡ true
of_table v l ws lists wraps t =
    and_from (is_admitted v) _ t.validity
    (and_from (is_admitted l) _ t.leaf (and_from (are_apart ws) _ t.apart (and_from (are_admitted ws) (wraps_admitted wraps) t.overrides t.wrappers)))

writer_admitted : (v l : StrategyData) (ws : StrategyList) (lists : Bool) (wraps : Wraps) → Table v l ws wraps → (name : List ℕ) → is_admitted (field_writer v l ws lists wraps name) ≡ true
writer_admitted v l ws lists wraps t name = go (override name ws) (override_admitted name ws t.overrides)
  where
    go : (o : Option StrategyData) → AdmittedIf o → is_admitted (given_or o (tabled v l (below name ws) lists wraps)) ≡ true
    go None r =
        of_table v l (below name ws) lists wraps
        (record { validity = t.validity; leaf = t.leaf; apart = below_apart name ws t.apart; overrides = below_admitted name ws t.overrides; wrappers = t.wrappers })
    go (Some w) r = r

writers_admitted : (v l : StrategyData) (ws : StrategyList) (lists : Bool) (wraps : Wraps) → Table v l ws wraps → (fs : Tys) → are_admitted (field_writers v l ws lists wraps fs) ≡ true
writers_admitted v l ws lists wraps t no_fields = refl
writers_admitted v l ws lists wraps t (field name u fs) =
    and_from (is_admitted (field_writer v l ws lists wraps name)) (are_admitted (field_writers v l ws lists wraps fs)) (writer_admitted v l ws lists wraps t name) (writers_admitted v l ws lists wraps t fs)

wrapped_admitted : (ws : Wraps) (w : StrategyData) → wraps_admitted ws ≡ true → is_admitted w ≡ true → is_admitted (wrapped ws w) ≡ true
wrapped_admitted no_wraps w h k = k
wrapped_admitted (wrap_grouped g ws) w h k =
    and_from (is_admitted_grouping g) (is_admitted (wrapped ws w)) (and_parts (is_admitted_grouping g) (wraps_admitted ws) h).0 (wrapped_admitted ws w (and_parts (is_admitted_grouping g) (wraps_admitted ws) h).1 k)
wrapped_admitted (wrap_zoned o stats ws) w h k =
    let r : (is_admitted stats && wraps_admitted ws) ≡ true = (and_parts (is_admitted_zoned o) _ h).1 in
    and_from (is_admitted_zoned o) _ (and_parts (is_admitted_zoned o) _ h).0
    (and_from (is_admitted (wrapped ws w)) (is_admitted stats) (wrapped_admitted ws w (and_parts (is_admitted stats) (wraps_admitted ws) r).1 k) (and_parts (is_admitted stats) (wraps_admitted ws) r).0)

list_admitted : (v l : StrategyData) (ws : StrategyList) (lists : Bool) (wraps : Wraps) (t : Ty) (n : Bool) → Table v l ws wraps → is_admitted (dispatch (tabled v l ws lists wraps) (list t n)) ≡ true
list_admitted v l ws true wraps t n h =
    wrapped_admitted wraps (listed (tabled v l no_ways true wraps) l v l) h.wrappers
    (and_from (is_admitted (tabled v l no_ways true wraps)) _ (of_table v l no_ways true wraps (record { validity = h.validity; leaf = h.leaf; apart = refl; overrides = refl; wrappers = h.wrappers }))
    (and_from (is_admitted l) _ h.leaf (and_from (is_admitted v) (is_admitted l) h.validity h.leaf)))
list_admitted v l ws false wraps t n h = h.leaf

pub dispatch_admitted : (w : StrategyData) (t : Ty) → is_admitted w ≡ true → is_admitted (dispatch w t) ≡ true
dispatch_admitted (tabled v l ws lists wraps) (struct fs n) h =
    let t : Table v l ws wraps = table_of v l ws lists wraps h in
    and_from (is_admitted v) _ t.validity (and_from (is_admitted l) (are_admitted (field_writers v l ws lists wraps fs)) t.leaf (writers_admitted v l ws lists wraps t fs))
dispatch_admitted (tabled v l ws lists wraps) (list t n) h = list_admitted v l ws lists wraps t n (table_of v l ws lists wraps h)
dispatch_admitted (tabled v l ws lists wraps) (boolean n) h = (table_of v l ws lists wraps h).leaf
dispatch_admitted (tabled v l ws lists wraps) (primitive p n) h = (table_of v l ws lists wraps h).leaf
dispatch_admitted (tabled v l ws lists wraps) (utf8 n) h = (table_of v l ws lists wraps h).leaf
dispatch_admitted (tabled v l ws lists wraps) (binary n) h = (table_of v l ws lists wraps h).leaf
dispatch_admitted (tabled v l ws lists wraps) (extension tag t) h = (table_of v l ws lists wraps h).leaf
dispatch_admitted (flat o) t h = h
dispatch_admitted (chunked w) t h = h
dispatch_admitted (grouped g w) t h = h
dispatch_admitted (compressed which room w) t h = h
dispatch_admitted (coded o c v f) t h = h
dispatch_admitted (zoned o w stats) t h = h
dispatch_admitted (structured v d ws) t h = h
dispatch_admitted (listed e o v f) t h = h
