-- A layout that is built of a node is that node again, where each of its nodes can be built.
use Rattle.std.proofs.Common.{◌≡◌, ℕ, zero, suc, ◌+◌, ◌^◌, Bool, true, false, List, [], ◌∷◌, ◌++◌, length, map, Option, Some, None, Result, Ok, Err, refl, sym, ap, subst, ◌∙◌, arith}
use Rattle.std.specs.Int.{w16, w32, to_le_bytes}
use Rattle.vx_model.specs.CellData.{u64_bytes}
use Rattle.std.specs.Prelude.{◌==◌, ◌&&◌, ◌||◌, not, nat_lt, codes, bytes_eq, if◌then◌else◌}
use Rattle.std.specs.Cmp.Lexicographic.{bytes_decides}
use Rattle.std.proofs.lemmas.Bool.{eqb-true}
use Rattle.vx_model.specs.Words.{total_by, joined_by}
use Rattle.vx_model.specs.declared.ptype.PType.{PType}
use Rattle.vx_model.specs.Ty.{Ty, primitive, struct, no_fields, nullable, is_list, is_struct}
use Rattle.vx_layout_spec.specs.Refusal.{Refusal, no_list, no_struct, unknown_index, unknown_aggregate}
use Rattle.vx_layout_spec.specs.LayoutTree.{Spec, Kind, flat_kind, chunked_kind, struct_kind, list_kind, dict_kind, zoned_kind, unread_zoned_kind, stats_kind, foreign_kind, kind_id, LayoutData, LayoutList, layout, lays_of, layout_type, row_count}
use Rattle.vx_layout_spec.proofs.LayoutLaws.{lays_in-lays_of}
use Rattle.vx_aggregate_spec.specs.Aggregate.{Aggregate, spec, aggregate_of}
use Rattle.vx_aggregate.specs.declared.stat.Stat.{Stat}
use Rattle.vx_aggregate.specs.Stats.{stat_number}
use Rattle.vx_aggregate.specs.Tables.{stats_table, legacy_table}
use Rattle.vx_metadata.specs.Kept.{kind_metadata, second_type, number_bit}
use Rattle.vx_metadata.specs.Reading.{flat_in, list_in, dict_in, zoned_in, legacy_in}
use Rattle.vx_metadata.specs.Spelled.{flat_bytes, stat_bit, spec_bytes, zoned_bytes}
use Rattle.vx_metadata.specs.Values.{Zoned}
use Rattle.vx_metadata.proofs.SmallLaws.{dict_takes, list_takes}
use Rattle.vx_metadata.proofs.SpecLaws.{zoned_takes}
use Rattle.vx_metadata.proofs.StatLaws.{legacy_takes}
use Rattle.vx_layout_bytes.specs.Node.{Own, Node, Nodes, node, no_nodes, first, number_of, own_of}
use Rattle.vx_layout_bytes.specs.Spelled.{numbered, segment_bytes, own_bytes, spelling, spellings}
use Rattle.vx_layout_bytes.specs.Reading.{Fault, root_at}
use Rattle.vx_layout_bytes.specs.Values.{AreBytes}
use Rattle.vx_layout_bytes.proofs.NodeLaws.{root_takes}
use Rattle.vx_session.specs.declared.encoding.LayoutEncoding.{LayoutEncoding}
use Rattle.vx_session.specs.declared.encoding.LayoutEncoding.TheVariants as kinds
use Rattle.vx_session.specs.Encodings.{layout_id, kind_of}
use Rattle.vx_session.specs.Ids.{id_at, place_of, are_distinct, is_listed, further}
use Rattle.vx_session.specs.Scope.{Context, Scope}
use Rattle.vx_session.specs.Made.{Made, ◌>>=◌, needs, spelled, ChildData, kid_rows, child_at, rows_at, standing_at, all_stand, each_stands, has_children, has_rows, all_have_rows, one_segment}
use Rattle.vx_session.specs.Kinds.{names_aggregate, nothing_in, struct_types, validity_type, validity_types, element_type, build_validity, build_offsets, read_spec, read_specs, read_on, with_options, build_flat, build_chunked, build_struct, build_list, build_dict, build_zoned, build_zones, build_stats, build_kind}
use Rattle.vx_session.specs.Builder.{unknown_in, unknown_among, unknown_here, earlier, foreign, all_foreign, id_or_none, unless_unknown, build_foreign, known_id, own_parts, build_registered, built_or_refused, is_flat_node, builder, kids}
use Rattle.vx_layout_codec_spec.specs.Permitted.{Checked, and_checked, refusal_in, own_built, permitted, all_permitted, built, all_built}
use Rattle.vx_session.proofs.Named.{means}
use Rattle.vx_layout_codec_spec.specs.NodeOf.{node_in, nodes_in}
use Rattle.vx_layout_codec_spec.specs.Bytes.{bytes_in}
use Rattle.vx_layout_codec_spec.specs.Parsed.{refused_by, parsed}
use Rattle.vx_layout_codec_spec.specs.Again.{ParsedIsSpelled}

-- ---- where it is built whole, the context lists all its ids, and it is the node

abbrev pub Again : List (List ℕ) → Node → LayoutData ℕ → Type 0
Again ids n l = built l ≡ Ok tt → (permitted ids l ≡ Ok tt) × (node_in ids l ≡ n)

abbrev pub AllAgain : List (List ℕ) → Nodes → List (LayoutData ℕ) → Type 0
AllAgain ids ns ls = all_built (lays_of ls) ≡ Ok tt → (all_permitted ids (lays_of ls) ≡ Ok tt) × (nodes_in ids (lays_of ls) ≡ ns)

and_parts : (a b : Checked) → and_checked a b ≡ Ok tt → (a ≡ Ok tt) × (b ≡ Ok tt)
and_parts (Ok u) b e = (refl, e)
and_parts (Err r) b e = absurd (cc e)

none_again : (ids : List (List ℕ)) → AllAgain ids no_nodes []
none_again ids b = (refl, refl)

more_again : (ids : List (List ℕ)) (n : Node) (ns : Nodes) (l : LayoutData ℕ) (ls : List (LayoutData ℕ)) → Again ids n l → AllAgain ids ns ls → AllAgain ids (first n ns) (l ∷ ls)
more_again ids n ns l ls one others b =
    let p = and_parts (built l) (all_built (lays_of ls)) b in
    let x = one p.0 in
    let y = others p.1 in
    (rw x.0 y.0, rw (x.1, y.1) refl)

own_again : (ids : List (List ℕ)) (k : Kind) (o : Own) (ns : Nodes) (t : Ty) (ls : List (LayoutData ℕ)) → refusal_in k ≡ None → place_of (kind_id k) ids ≡ Some o.index
    → kind_metadata k (second_type ls) ≡ o.metadata → AllAgain ids ns ls → Again ids (node o ns) (layout k t o.rows o.segments (lays_of ls))
own_again ids k o ns t ls none place kept below b =
    let p = and_parts (own_built (refusal_in k)) (all_built (lays_of ls)) b in
    let y = below p.1 in
    (rw (none, place) y.0, rw (lays_in-lays_of ls, place, kept, y.1) refl)

-- ---- what comes of it is of the type and is the node again, where something does

unfoldable pub Makes : List (List ℕ) → Node → Ty → Made → Type 0
Makes ids n t (Ok l) = (layout_type l ≡ t) × Again ids n l
Makes ids n t (Err refusal) = Unit {0}

there : (ids : List (List ℕ)) (n : Node) (t : Ty) (l : LayoutData ℕ) → layout_type l ≡ t → Again ids n l → Makes ids n t (Ok l)
unfolding Makes
there ids n t l e a = (e, a)

absent : (ids : List (List ℕ)) (n : Node) (t : Ty) (refusal : Refusal) → Makes ids n t (Err refusal)
unfolding Makes
absent ids n t refusal = tt

going : {A : Type 0} (ids : List (List ℕ)) (n : Node) (t : Ty) (r : Result A Refusal) (f : A → Made) → ((x : A) → r ≡ Ok x → Makes ids n t (f x)) → Makes ids n t (r >>= f)
going ids n t (Ok x) f h = h x refl
going ids n t (Err e) f h = absent ids n t e

made_type : (ids : List (List ℕ)) (n : Node) (t : Ty) (r : Made) (l : LayoutData ℕ) → Makes ids n t r → r ≡ Ok l → layout_type l ≡ t
unfolding Makes
made_type ids n t (Ok m) l h e = let same : m ≡ l = cc e in rw (← same) h.0
made_type ids n t (Err r) l h e = absurd (cc e)

made_again : (ids : List (List ℕ)) (n : Node) (t : Ty) (r : Made) (l : LayoutData ℕ) → Makes ids n t r → r ≡ Ok l → Again ids n l
unfolding Makes
made_again ids n t (Ok m) l h e = let same : m ≡ l = cc e in rw (← same) h.1
made_again ids n t (Err r) l h e = absurd (cc e)

-- ---- children

pub record IsKid (ids : List (List ℕ)) (k : ChildData) (n : Node) : Type 0 where
  pub builds : (t : Ty) → Makes ids n t (k.build t)
  pub stands : (t : Ty) → Again ids n (k.stands t)

abbrev pub AreKids : List (List ℕ) → List ChildData → Nodes → Type 0
AreKids ids [] no_nodes = Unit {0}
AreKids ids [] (first n ns) = ⊥
AreKids ids (k ∷ ks) no_nodes = ⊥
AreKids ids (k ∷ ks) (first n ns) = IsKid ids k n × AreKids ids ks ns

counted : (n m : ℕ) (refusal : Refusal) (u : Unit {0}) → needs (n == m) refusal ≡ Ok u → n ≡ m
counted n m refusal u e = eqb-true n m (go (n == m) e)
  where
    go : (b : Bool) → needs b refusal ≡ Ok u → b ≡ true
    go true e = refl
    go false e = absurd (cc e)

no_kids : (ids : List (List ℕ)) (ks : List ChildData) (ns : Nodes) → AreKids ids ks ns → length ks ≡ 0 → AllAgain ids ns []
no_kids ids [] no_nodes are len = none_again ids
no_kids ids [] (first n ns) are len = absurd are
no_kids ids (k ∷ ks) ns are len = absurd (omega (arith, len))

all_again : (ids : List (List ℕ)) (t : Ty) (ks : List ChildData) (ns : Nodes) → AreKids ids ks ns → AllAgain ids ns (all_stand t ks)
all_again ids t [] no_nodes are = none_again ids
all_again ids t [] (first n ns) are = absurd are
all_again ids t (k ∷ ks) no_nodes are = absurd are
all_again ids t (k ∷ ks) (first n ns) are = more_again ids n ns (k.stands t) (all_stand t ks) (are.0.stands t) (all_again ids t ks ns are.1)

each_again : (ids : List (List ℕ)) (ts : List Ty) (ks : List ChildData) (ns : Nodes) → AreKids ids ks ns → length ks ≡ length ts → AllAgain ids ns (each_stands ts ks)
each_again ids [] ks ns are len = no_kids ids ks ns are len
each_again ids (t ∷ ts) [] ns are len = absurd (omega (arith, len))
each_again ids (t ∷ ts) (k ∷ ks) no_nodes are len = absurd are
each_again ids (t ∷ ts) (k ∷ ks) (first n ns) are len = more_again ids n ns (k.stands t) (each_stands ts ks) (are.0.stands t) (each_again ids ts ks ns are.1 (omega (arith, len)))

-- the first is built, and the other stands
one_again : (ids : List (List ℕ)) (ks : List ChildData) (ns : Nodes) (x : LayoutData ℕ) (t u : Ty) → AreKids ids ks ns → length ks ≡ 2 → child_at ks 0 t ≡ Ok x
    → AllAgain ids ns (x ∷ standing_at ks 1 u)
one_again ids [] ns x t u are len e = absurd (omega (arith, len))
one_again ids (a ∷ []) ns x t u are len e = absurd (omega (arith, len))
one_again ids (a ∷ b ∷ []) no_nodes x t u are len e = absurd are
one_again ids (a ∷ b ∷ []) (first m no_nodes) x t u are len e = absurd are.1
one_again ids (a ∷ b ∷ []) (first m (first n no_nodes)) x t u are len e =
    more_again ids m (first n no_nodes) x (b.stands u ∷ []) (made_again ids m t (a.build t) x (are.0.builds t) e)
    (more_again ids n no_nodes (b.stands u) [] (are.1.0.stands u) (none_again ids))
one_again ids (a ∷ b ∷ []) (first m (first n (first k ns))) x t u are len e = absurd are.1.1
one_again ids (a ∷ b ∷ c ∷ ks) ns x t u are len e = absurd (omega (arith, len))

two_again : (ids : List (List ℕ)) (ks : List ChildData) (ns : Nodes) (x y : LayoutData ℕ) (t u : Ty) → AreKids ids ks ns → length ks ≡ 2 → child_at ks 0 t ≡ Ok x → child_at ks 1 u ≡ Ok y
    → AllAgain ids ns (x ∷ y ∷ [])
two_again ids [] ns x y t u are len e f = absurd (omega (arith, len))
two_again ids (a ∷ []) ns x y t u are len e f = absurd (omega (arith, len))
two_again ids (a ∷ b ∷ []) no_nodes x y t u are len e f = absurd are
two_again ids (a ∷ b ∷ []) (first m no_nodes) x y t u are len e f = absurd are.1
two_again ids (a ∷ b ∷ []) (first m (first n no_nodes)) x y t u are len e f =
    more_again ids m (first n no_nodes) x (y ∷ []) (made_again ids m t (a.build t) x (are.0.builds t) e)
    (more_again ids n no_nodes y [] (made_again ids n u (b.build u) y (are.1.0.builds u) f) (none_again ids))
two_again ids (a ∷ b ∷ []) (first m (first n (first k ns))) x y t u are len e f = absurd are.1.1
two_again ids (a ∷ b ∷ c ∷ ks) ns x y t u are len e f = absurd (omega (arith, len))

three_again : (ids : List (List ℕ)) (ks : List ChildData) (ns : Nodes) (x y z : LayoutData ℕ) (t u v : Ty) → AreKids ids ks ns → length ks ≡ 3 → child_at ks 0 t ≡ Ok x → child_at ks 1 u ≡ Ok y
    → child_at ks 2 v ≡ Ok z → AllAgain ids ns (x ∷ y ∷ z ∷ [])
three_again ids [] ns x y z t u v are len e f g = absurd (omega (arith, len))
three_again ids (a ∷ []) ns x y z t u v are len e f g = absurd (omega (arith, len))
three_again ids (a ∷ b ∷ []) ns x y z t u v are len e f g = absurd (omega (arith, len))
three_again ids (a ∷ b ∷ c ∷ []) no_nodes x y z t u v are len e f g = absurd are
three_again ids (a ∷ b ∷ c ∷ []) (first m no_nodes) x y z t u v are len e f g = absurd are.1
three_again ids (a ∷ b ∷ c ∷ []) (first m (first n no_nodes)) x y z t u v are len e f g = absurd are.1.1
three_again ids (a ∷ b ∷ c ∷ []) (first m (first n (first o no_nodes))) x y z t u v are len e f g =
    more_again ids m (first n (first o no_nodes)) x (y ∷ z ∷ []) (made_again ids m t (a.build t) x (are.0.builds t) e)
    (more_again ids n (first o no_nodes) y (z ∷ []) (made_again ids n u (b.build u) y (are.1.0.builds u) f)
    (more_again ids o no_nodes z [] (made_again ids o v (c.build v) z (are.1.1.0.builds v) g) (none_again ids)))
three_again ids (a ∷ b ∷ c ∷ []) (first m (first n (first o (first k ns)))) x y z t u v are len e f g = absurd are.1.1.1
three_again ids (a ∷ b ∷ c ∷ d ∷ ks) ns x y z t u v are len e f g = absurd (omega (arith, len))

-- the second child is of the type that it is built at
second_made : (ids : List (List ℕ)) (ks : List ChildData) (ns : Nodes) (y : LayoutData ℕ) (u : Ty) → AreKids ids ks ns → child_at ks 1 u ≡ Ok y → layout_type y ≡ u
second_made ids [] ns y u are f = absurd (cc f)
second_made ids (a ∷ []) ns y u are f = absurd (cc f)
second_made ids (a ∷ b ∷ ks) no_nodes y u are f = absurd are
second_made ids (a ∷ b ∷ ks) (first m no_nodes) y u are f = absurd are.1
second_made ids (a ∷ b ∷ ks) (first m (first n ns)) y u are f = made_type ids n u (b.build u) y (are.1.0.builds u) f

-- ---- metadata

is_spelled : {A : Type 0} (m : List ℕ) (o : Option A) (x : A) → spelled m o ≡ Ok x → o ≡ Some x
is_spelled m (Some y) x e = let same : y ≡ x = cc e in rw same refl
is_spelled m None x e = absurd (cc e)

nothing_is : (m : List ℕ) (u : Unit {0}) → nothing_in m ≡ Some u → [] ≡ m
nothing_is [] u e = refl
nothing_is (b ∷ m) u e = absurd (cc e)

flat_takes : (m : List ℕ) (tree : Option (List ℕ)) → flat_in m ≡ Some tree → flat_bytes tree ≡ m
flat_takes [] tree e = let same : None ≡ tree = cc e in rw (← same) refl
flat_takes (zero ∷ m) tree e = absurd (cc e)
flat_takes (suc zero ∷ m) tree e = let same : Some m ≡ tree = cc e in rw (← same) refl
flat_takes (suc (suc b) ∷ m) tree e = absurd (cc e)

one_is : (ss : List ℕ) (s : ℕ) → one_segment ss ≡ Ok s → ss ≡ s ∷ []
one_is [] s e = absurd (cc e)
one_is (x ∷ []) s e = let same : x ≡ s = cc e in rw same refl
one_is (x ∷ y ∷ ss) s e = absurd (cc e)

bits_same : (ss : List Stat) → total_by number_bit (map stat_number ss) ≡ total_by stat_bit ss
bits_same [] = refl
bits_same (s ∷ ss) = ap (λ n. stat_bit s + n) (bits_same ss)

-- ---- kinds

flat : (ids : List (List ℕ)) (c : Context) (o : Own) (ks : List ChildData) (ns : Nodes) (t : Ty) → AreKids ids ks ns → place_of (codes "vortex.flat") ids ≡ Some o.index
    → Makes ids (node o ns) t (build_flat c (own_parts o ks t) o.metadata)
unfolding build_flat
flat ids c o ks ns t are place =
    going ids (node o ns) t (spelled o.metadata (flat_in o.metadata)) _ (λ tree e. going ids (node o ns) t (one_segment o.segments) _ (λ segment f. going ids (node o ns) t (has_children 0 ks) _ (λ none g.
    there ids (node o ns) t _ refl (rw (← one_is o.segments segment f) (own_again ids (flat_kind c.encodings tree) o ns t [] refl place (flat_takes o.metadata tree (is_spelled o.metadata _ tree e)) (no_kids ids ks ns are (counted (length ks) 0 _ none g)))))))

chunked : (ids : List (List ℕ)) (o : Own) (ks : List ChildData) (ns : Nodes) (t : Ty) → AreKids ids ks ns → place_of (codes "vortex.chunked") ids ≡ Some o.index
    → Makes ids (node o ns) t (build_chunked (own_parts o ks t) o.metadata)
unfolding build_chunked
chunked ids o ks ns t are place =
    going ids (node o ns) t (spelled o.metadata (nothing_in o.metadata)) _ (λ nothing e. going ids (node o ns) t (has_rows (total_by kid_rows ks) o.rows) _ (λ rows f.
    there ids (node o ns) t _ refl (own_again ids chunked_kind o ns t (all_stand t ks) refl place (nothing_is o.metadata nothing (is_spelled o.metadata _ nothing e)) (all_again ids t ks ns are))))

structs : (ids : List (List ℕ)) (o : Own) (ks : List ChildData) (ns : Nodes) (t : Ty) → AreKids ids ks ns → place_of (codes "vortex.struct") ids ≡ Some o.index
    → Makes ids (node o ns) t (build_struct (own_parts o ks t) o.metadata)
unfolding build_struct
structs ids o ks ns t are place =
    going ids (node o ns) t (spelled o.metadata (nothing_in o.metadata)) _ (λ nothing e. going ids (node o ns) t (needs (is_struct t) no_struct) _ (λ fields d. going ids (node o ns) t (has_children (length (struct_types t)) ks) _ (λ count f. going ids (node o ns) t (all_have_rows o.rows ks) _ (λ rows g.
    there ids (node o ns) t _ refl (own_again ids struct_kind o ns t (each_stands (struct_types t) ks) refl place (nothing_is o.metadata nothing (is_spelled o.metadata _ nothing e)) (each_again ids (struct_types t) ks ns are (counted (length ks) (length (struct_types t)) _ count f)))))))

-- the validity, where there is one
one_more : (r : Result (Unit {0}) Refusal) (v : LayoutData ℕ) (vs : List (LayoutData ℕ)) → (r >>= λ rows. Ok (v ∷ [])) ≡ Ok vs → vs ≡ v ∷ []
one_more (Ok u) v vs e = cc e
one_more (Err r) v vs e = absurd (cc e)

a_validity : (r : Made) (n : ℕ) (vs : List (LayoutData ℕ)) → (r >>= λ v. has_rows (row_count v) n >>= λ rows. Ok (v ∷ [])) ≡ Ok vs → (v : LayoutData ℕ) × (r ≡ Ok v) × (vs ≡ v ∷ [])
a_validity (Ok v) n vs e = (v, refl, one_more (has_rows (row_count v) n) v vs e)
a_validity (Err r) n vs e = absurd (cc e)

list_again : (ids : List (List ℕ)) (o : Own) (ks : List ChildData) (ns : Nodes) (t : Ty) (x y : LayoutData ℕ) (u v : Ty) (vs : List (LayoutData ℕ)) (b : Bool) → nullable t ≡ b → AreKids ids ks ns
    → length ks ≡ 2 + length (validity_types t) → child_at ks 0 u ≡ Ok x → child_at ks 1 v ≡ Ok y → build_validity (own_parts o ks t) ≡ Ok vs → AllAgain ids ns (x ∷ y ∷ vs)
list_again ids o ks ns t x y u v vs true is are len e f g =
    let whole : (child_at ks 2 validity_type >>= λ v. has_rows (row_count v) o.rows >>= λ rows. Ok (v ∷ [])) ≡ Ok vs = cc (is, g) in
    let p = a_validity (child_at ks 2 validity_type) o.rows vs whole in
    let three : length ks ≡ 3 = rw len (rw is refl) in
    rw p.2 (three_again ids ks ns x y p.0 u v validity_type are three e f p.1)
list_again ids o ks ns t x y u v vs false is are len e f g =
    let none : vs ≡ [] = cc (is, g) in
    let two : length ks ≡ 2 = rw len (rw is refl) in
    rw none (two_again ids ks ns x y u v are two e f)

offsets : (ids : List (List ℕ)) (o : Own) (ks : List ChildData) (ns : Nodes) (t : Ty) (integers : PType) → AreKids ids ks ns → place_of (codes "vortex.list") ids ≡ Some o.index
    → ((y : LayoutData ℕ) (zs : List (LayoutData ℕ)) (x : LayoutData ℕ) → layout_type y ≡ primitive integers false → kind_metadata list_kind (second_type (x ∷ y ∷ zs)) ≡ o.metadata)
    → Makes ids (node o ns) t (build_offsets (own_parts o ks t) integers)
unfolding build_offsets
offsets ids o ks ns t integers are place kept =
    going ids (node o ns) t (has_children (2 + length (validity_types t)) ks) _ (λ count e. going ids (node o ns) t (child_at ks 0 (element_type t)) _ (λ elements f. going ids (node o ns) t (child_at ks 1 (primitive integers false)) _ (λ ends g. going ids (node o ns) t (has_rows _ o.rows) _ (λ rows h. going ids (node o ns) t (build_validity (own_parts o ks t)) _ (λ validity v.
    there ids (node o ns) t _ refl (own_again ids list_kind o ns t (elements ∷ ends ∷ validity) refl place (kept ends validity elements (second_made ids ks ns ends (primitive integers false) are g)) (list_again ids o ks ns t elements ends (element_type t) (primitive integers false) validity (nullable t) refl are (counted (length ks) _ _ count e) f g v)))))))

lists : (ids : List (List ℕ)) (o : Own) (ks : List ChildData) (ns : Nodes) (t : Ty) → AreKids ids ks ns → place_of (codes "vortex.list") ids ≡ Some o.index
    → Makes ids (node o ns) t (build_list (own_parts o ks t) o.metadata)
unfolding build_list
lists ids o ks ns t are place =
    going ids (node o ns) t (spelled o.metadata (list_in o.metadata)) _ (λ kept e. going ids (node o ns) t (needs (is_list t) no_list) _ (λ of_lists f.
    offsets ids o ks ns t kept.offsets_ptype are place (λ y zs x is. rw is (list_takes o.metadata kept (is_spelled o.metadata _ kept e)))))

dicts : (ids : List (List ℕ)) (o : Own) (ks : List ChildData) (ns : Nodes) (t : Ty) → AreKids ids ks ns → place_of (codes "vortex.dict") ids ≡ Some o.index
    → Makes ids (node o ns) t (build_dict (own_parts o ks t) o.metadata)
unfolding build_dict
dicts ids o ks ns t are place =
    going ids (node o ns) t (spelled o.metadata (dict_in o.metadata)) _ (λ dict e. going ids (node o ns) t (has_children 2 ks) _ (λ count f. going ids (node o ns) t (child_at ks 0 t) _ (λ values g. going ids (node o ns) t (child_at ks 1 (primitive dict.codes_ptype dict.is_nullable_codes)) _ (λ places h. going ids (node o ns) t (has_rows (row_count places) o.rows) _ (λ rows i.
    there ids (node o ns) t _ refl (own_again ids (dict_kind dict.all_values_referenced) o ns t (values ∷ places ∷ []) refl place
    (rw (second_made ids ks ns places (primitive dict.codes_ptype dict.is_nullable_codes) are h) (dict_takes o.metadata dict (is_spelled o.metadata _ dict e)))
    (two_again ids ks ns values places t (primitive dict.codes_ptype dict.is_nullable_codes) are (counted (length ks) 2 _ count f) g h)))))))

tables : (ids : List (List ℕ)) (o : Own) (ks : List ChildData) (ns : Nodes) (t : Ty) (zone_len : ℕ) (aggregates : Option (List Aggregate)) → AreKids ids ks ns → place_of (codes "vortex.zoned") ids ≡ Some o.index
    → length ks ≡ 2 → ((read : List Aggregate) → aggregates ≡ Some read → zoned_bytes (record { zone_len = zone_len; specs = map spec read }) ≡ o.metadata)
    → Makes ids (node o ns) t (build_zones (own_parts o ks t) o.metadata zone_len aggregates)
tables ids o ks ns t zone_len None are place len kept =
    going ids (node o ns) t (child_at ks 0 t) _ (λ column e.
    there ids (node o ns) t _ refl (own_again ids (unread_zoned_kind o.metadata) o ns t (column ∷ standing_at ks 1 (struct no_fields false)) refl place refl (one_again ids ks ns column t (struct no_fields false) are len e)))
tables ids o ks ns t zone_len (Some aggregates) are place len kept =
    going ids (node o ns) t (child_at ks 0 t) _ (λ column e. going ids (node o ns) t (child_at ks 1 (stats_table t aggregates)) _ (λ zones f.
    there ids (node o ns) t _ refl (own_again ids (zoned_kind zone_len (map spec aggregates)) o ns t (column ∷ zones ∷ []) refl place (kept aggregates refl) (two_again ids ks ns column zones t (stats_table t aggregates) are len e f))))

stats : (ids : List (List ℕ)) (o : Own) (ks : List ChildData) (ns : Nodes) (t : Ty) → AreBytes o.metadata → AreKids ids ks ns → place_of (codes "vortex.stats") ids ≡ Some o.index
    → Makes ids (node o ns) t (build_stats (own_parts o ks t) o.metadata)
unfolding build_stats
stats ids o ks ns t bytes are place =
    going ids (node o ns) t (spelled o.metadata (legacy_in o.metadata)) _ (λ kept e. going ids (node o ns) t (has_children 2 ks) _ (λ count f. going ids (node o ns) t (child_at ks 0 t) _ (λ column g. going ids (node o ns) t (child_at ks 1 (legacy_table t kept.1)) _ (λ zones h.
    there ids (node o ns) t _ refl (own_again ids (stats_kind kept.0 (map stat_number kept.1)) o ns t (column ∷ zones ∷ []) refl place
    (rw (bits_same kept.1) (legacy_takes o.metadata kept bytes (is_spelled o.metadata _ kept e)))
    (two_again ids ks ns column zones t (legacy_table t kept.1) are (counted (length ks) 2 _ count f) g h))))))

-- ---- aggregates that specs name

bytes_back : (a b : List ℕ) → AreBytes (a ++ b) → AreBytes b
bytes_back [] b h = h
bytes_back (x ∷ a) b h = bytes_back a b (λ i. h (suc i))

bytes_front : (a b : List ℕ) → AreBytes (a ++ b) → AreBytes a
bytes_front [] b h i = omega arith
bytes_front (x ∷ a) b h zero = h zero
bytes_front (x ∷ a) b h (suc i) = bytes_front a b (λ j. h (suc j)) i

option_bytes_of : (s : Spec) → AreBytes (spec_bytes s) → AreBytes s.options
option_bytes_of s h = bytes_back (to_le_bytes w32 (length s.options)) s.options (bytes_back (to_le_bytes w32 (length s.id) ++ s.id) (to_le_bytes w32 (length s.options) ++ s.options) h)

unfoldable pub Name : List Spec → Result (Option (List Aggregate)) Refusal → Type 0
Name ss (Ok (Some read)) = map spec read ≡ ss
Name ss (Ok None) = Unit {0}
Name ss (Err refusal) = Unit {0}

more_named : (s : Spec) (ss : List Spec) (one : Result (Option Aggregate) Refusal) (others : Result (Option (List Aggregate)) Refusal) → ((a : Aggregate) → one ≡ Ok (Some a) → spec a ≡ s)
    → Name ss others → Name (s ∷ ss) (one >>= λ o. read_on o others)
unfolding Name
more_named s ss (Err e) others h n = tt
more_named s ss (Ok None) others h n = tt
more_named s ss (Ok (Some a)) (Err e) h n = tt
more_named s ss (Ok (Some a)) (Ok None) h n = tt
more_named s ss (Ok (Some a)) (Ok (Some read)) h n = rw (h a refl, n) refl

is_named : (b through : Bool) (s : Spec) (o : Option Aggregate) (a : Aggregate) (refusal : Refusal) → (if b then with_options s o else if through then Ok None else Err refusal) ≡ Ok (Some a) → o ≡ Some a
is_named true through s None a refusal e = absurd (cc e)
is_named true through s (Some x) a refusal e = cc e
is_named false true s o a refusal e = absurd (cc e)
is_named false false s o a refusal e = absurd (cc e)

spec_named : (c : Context) (s : Spec) (a : Aggregate) → AreBytes s.options → read_spec c s ≡ Ok (Some a) → spec a ≡ s
unfolding read_spec
spec_named c s a bytes e =
    let m = means s a bytes (is_named (is_listed s.id c.aggregates && names_aggregate s.id) c.allow_unknown s (aggregate_of s) a (unknown_aggregate s.id) e) in
    rw (m.0, m.1) refl

named : (c : Context) (ss : List Spec) → AreBytes (joined_by spec_bytes ss) → Name ss (read_specs c ss)
unfolding Name
named c [] bytes = refl
named c (s ∷ ss) bytes =
    more_named s ss (read_spec c s) (read_specs c ss) (λ a e. spec_named c s a (option_bytes_of s (bytes_front (spec_bytes s) (joined_by spec_bytes ss) bytes)) e)
    (named c ss (bytes_back (spec_bytes s) (joined_by spec_bytes ss) bytes))

read_named : (ss : List Spec) (r : Result (Option (List Aggregate)) Refusal) (read : List Aggregate) → Name ss r → r ≡ Ok (Some read) → map spec read ≡ ss
unfolding Name
read_named ss (Ok (Some x)) read n e = let same : x ≡ read = cc e in rw (← same) n
read_named ss (Ok None) read n e = absurd (cc e)
read_named ss (Err r) read n e = absurd (cc e)

specs_bytes : (z : Zoned) → AreBytes (zoned_bytes z) → AreBytes (joined_by spec_bytes z.specs)
specs_bytes z h =
    bytes_back (to_le_bytes w32 (length z.specs)) (joined_by spec_bytes z.specs)
    (bytes_back (to_le_bytes w32 z.zone_len) (to_le_bytes w32 (length z.specs) ++ joined_by spec_bytes z.specs) (λ i. h (suc i)))

zoned : (ids : List (List ℕ)) (c : Context) (o : Own) (ks : List ChildData) (ns : Nodes) (t : Ty) → AreBytes o.metadata → AreKids ids ks ns → place_of (codes "vortex.zoned") ids ≡ Some o.index
    → Makes ids (node o ns) t (build_zoned c (own_parts o ks t) o.metadata)
unfolding build_zoned
zoned ids c o ks ns t bytes are place =
    going ids (node o ns) t (spelled o.metadata (zoned_in o.metadata)) _ (λ z e. going ids (node o ns) t (has_children 2 ks) _ (λ count f. going ids (node o ns) t (has_rows (rows_at ks 0) o.rows) _ (λ rows g. going ids (node o ns) t (read_specs c z.specs) _ (λ aggregates h.
    tables ids o ks ns t z.zone_len aggregates are place (counted (length ks) 2 _ count f) (λ read is. kept z e read (rw (h, is) refl))))))
  where
    kept : (z : Zoned) → spelled o.metadata (zoned_in o.metadata) ≡ Ok z → (read : List Aggregate) → read_specs c z.specs ≡ Ok (Some read)
        → zoned_bytes (record { zone_len = z.zone_len; specs = map spec read }) ≡ o.metadata
    kept z e read is =
        let takes : zoned_bytes z ≡ o.metadata = (zoned_takes o.metadata z bytes (is_spelled o.metadata _ z e)).1 in
        let all : AreBytes (zoned_bytes z) = subst (λ (m : List ℕ). AreBytes m) (sym takes) bytes in
        rw (read_named z.specs (read_specs c z.specs) read (named c z.specs (specs_bytes z all)) is) takes

any : (ids : List (List ℕ)) (kind : LayoutEncoding) (c : Context) (o : Own) (ks : List ChildData) (ns : Nodes) (t : Ty) → AreBytes o.metadata → AreKids ids ks ns
    → place_of (layout_id kind) ids ≡ Some o.index → Makes ids (node o ns) t (build_kind kind c (own_parts o ks t) o.metadata)
any ids kinds.Flat c o ks ns t bytes are place = flat ids c o ks ns t are place
any ids kinds.Chunked c o ks ns t bytes are place = chunked ids o ks ns t are place
any ids kinds.Struct c o ks ns t bytes are place = structs ids o ks ns t are place
any ids kinds.List c o ks ns t bytes are place = lists ids o ks ns t are place
any ids kinds.Dict c o ks ns t bytes are place = dicts ids o ks ns t are place
any ids kinds.Zoned c o ks ns t bytes are place = zoned ids c o ks ns t bytes are place
any ids kinds.LegacyStats c o ks ns t bytes are place = stats ids o ks ns t bytes are place

-- ---- the place of an id

same_id : (a b : List ℕ) → bytes_eq a b ≡ true → a ≡ b
same_id a b e = (bytes_decides a b).0 e

eq_refl : (a : List ℕ) → bytes_eq a a ≡ true
eq_refl a = (bytes_decides a a).1 refl

no_longer : (a b : Bool) → (not a && b) ≡ true → (a ≡ false) × (b ≡ true)
no_longer true b e = absurd (cc e)
no_longer false b e = (refl, e)

listed_at : (ids : List (List ℕ)) (i : ℕ) (id : List ℕ) → id_at ids i ≡ Some id → is_listed id ids ≡ true
listed_at [] i id e = absurd (cc e)
listed_at (x ∷ ids) zero id e = let same : x ≡ id = cc e in rw (same, eq_refl id) refl
listed_at (x ∷ ids) (suc i) id e = either (bytes_eq x id) (listed_at ids i id e)
  where
    either : (b : Bool) → is_listed id ids ≡ true → (b || is_listed id ids) ≡ true
    either true h = refl
    either false h = h

place_back : (ids : List (List ℕ)) (i : ℕ) (id : List ℕ) → are_distinct ids ≡ true → id_at ids i ≡ Some id → place_of id ids ≡ Some i
place_back [] i id d e = absurd (cc e)
place_back (x ∷ ids) zero id d e = let same : x ≡ id = cc e in rw (same, eq_refl id) refl
place_back (x ∷ ids) (suc i) id d e =
    let parts = no_longer (is_listed x ids) (are_distinct ids) d in
    go (bytes_eq x id) refl parts.0 (place_back ids i id parts.1 e)
  where
    go : (b : Bool) → bytes_eq x id ≡ b → is_listed x ids ≡ false → place_of id ids ≡ Some i → (if b then Some 0 else further (place_of id ids)) ≡ Some (suc i)
    go true is none place = absurd (cc (same_id x id is, listed_at ids i id e, none))
    go false is none place = rw place refl

kind_named : (id : List ℕ) (ks : List LayoutEncoding) (k : LayoutEncoding) → kind_of id ks ≡ Some k → layout_id k ≡ id
kind_named id [] k e = absurd (cc e)
kind_named id (j ∷ ks) k e = go (bytes_eq (layout_id j) id) refl (kind_named id ks k) e
  where
    go : (b : Bool) → bytes_eq (layout_id j) id ≡ b → (kind_of id ks ≡ Some k → layout_id k ≡ id) → (if b then Some j else kind_of id ks) ≡ Some k → layout_id k ≡ id
    go true is others e = let same : j ≡ k = cc e in rw (← same) (same_id (layout_id j) id is)
    go false is others e = others e

-- ---- foreign nodes

here_known : (index : ℕ) (o : Option (List ℕ)) (below : Option ℕ) → unknown_here index o below ≡ None → (o ≡ Some (id_or_none o)) × (below ≡ None)
here_known index None below e = absurd (cc e)
here_known index (Some id) below e = (refl, e)

both_known : (a b : Option ℕ) → earlier a b ≡ None → (a ≡ None) × (b ≡ None)
both_known None b e = (refl, e)
both_known (Some n) b e = absurd (cc e)

foreign_own : (ids : List (List ℕ)) (o : Own) (ns : Nodes) (t : Ty) (id : List ℕ) (ls : LayoutList ℕ) → place_of id ids ≡ Some o.index
    → (all_built ls ≡ Ok tt → (all_permitted ids ls ≡ Ok tt) × (nodes_in ids ls ≡ ns)) → Again ids (node o ns) (layout (foreign_kind id o.metadata) t o.rows o.segments ls)
foreign_own ids o ns t id ls place below b = let y = below b in (rw place y.0, rw (place, y.1) refl)

mutual
  foreign_again : (ids : List (List ℕ)) (t : Ty) (n : Node) → are_distinct ids ≡ true → unknown_in ids n ≡ None → Again ids n (foreign ids t n)
  foreign_again ids t (node o ns) d none =
      let p = here_known o.index (id_at ids o.index) (unknown_among ids ns) none in
      foreign_own ids o ns t (id_or_none (id_at ids o.index)) (all_foreign ids t ns) (place_back ids o.index _ d p.0) (foreigns_again ids t ns d p.1)

  foreigns_again : (ids : List (List ℕ)) (t : Ty) (ns : Nodes) → are_distinct ids ≡ true → unknown_among ids ns ≡ None
      → all_built (all_foreign ids t ns) ≡ Ok tt → (all_permitted ids (all_foreign ids t ns) ≡ Ok tt) × (nodes_in ids (all_foreign ids t ns) ≡ ns)
  foreigns_again ids t no_nodes d none b = (refl, refl)
  foreigns_again ids t (first n ns) d none b =
      let p = both_known (unknown_in ids n) (unknown_among ids ns) none in
      let q = and_parts (built (foreign ids t n)) (all_built (all_foreign ids t ns)) b in
      let x = foreign_again ids t n d p.0 q.0 in
      let y = foreigns_again ids t ns d p.1 q.1 in
      (rw x.0 y.0, rw (x.1, y.1) refl)

foreign_type : (ids : List (List ℕ)) (t : Ty) (n : Node) → layout_type (foreign ids t n) ≡ t
foreign_type ids t (node o ns) = refl

if_known : (ids : List (List ℕ)) (t : Ty) (n : Node) (u : Option ℕ) → are_distinct ids ≡ true → unknown_in ids n ≡ u → Makes ids n t (unless_unknown u (foreign ids t n))
if_known ids t n None d e = there ids n t (foreign ids t n) (foreign_type ids t n) (foreign_again ids t n d e)
if_known ids t n (Some index) d e = absent ids n t _

-- ---- nodes

id_known : (ids : List (List ℕ)) (index : ℕ) (id : List ℕ) → known_id ids index ≡ Ok id → id_at ids index ≡ Some id
id_known ids index id e = go (id_at ids index) refl
  where
    go : (o : Option (List ℕ)) → id_at ids index ≡ o → id_at ids index ≡ Some id
    go None is = let f : known_id ids index ≡ Err (unknown_index index) = rw is refl in absurd (cc (f, e))
    go (Some x) is = let f : known_id ids index ≡ Ok x = rw is refl in let same : x ≡ id = cc (f, e) in is ∙ ap (λ (t : List ℕ). Some t) same

if_allowed : (ids : List (List ℕ)) (n : Node) (t : Ty) (b : Bool) (r : Made) (refusal : Refusal) → Makes ids n t r → Makes ids n t (if b then r else Err refusal)
if_allowed ids n t true r refusal h = h
if_allowed ids n t false r refusal h = absent ids n t refusal

registered : (s : Scope) (o : Own) (ks : List ChildData) (ns : Nodes) (id : List ℕ) (other : Made) (t : Ty) (k : Option LayoutEncoding) → kind_of id s.registered ≡ k → place_of id s.ids ≡ Some o.index
    → AreBytes o.metadata → AreKids s.ids ks ns → Makes s.ids (node o ns) t other → Makes s.ids (node o ns) t (build_registered s o ks id other t k)
registered s o ks ns id other t None is place bytes are h = if_allowed s.ids (node o ns) t s.allow_unknown other _ h
registered s o ks ns id other t (Some kind) is place bytes are h = any s.ids kind s.context o ks ns t bytes are (rw (kind_named id s.registered kind is) place)

stands_again : (ids : List (List ℕ)) (n : Node) (flat : Bool) (o : Own) (t : Ty) (r : Made) → Makes ids n t r → Again ids n (built_or_refused flat o t r)
unfolding Makes
stands_again ids n is_one o t (Ok l) h b = h.1 b
stands_again ids n is_one o t (Err refusal) h b = absurd (cc b)

-- all metadata are bytes
abbrev mutual
  pub HasBytes : Node → Type 0
  HasBytes (node o ns) = AreBytes o.metadata × HaveBytes ns

  pub HaveBytes : Nodes → Type 0
  HaveBytes no_nodes = Unit {0}
  HaveBytes (first n ns) = HasBytes n × HaveBytes ns

mutual
  pub built_again : (s : Scope) (n : Node) (t : Ty) → are_distinct s.ids ≡ true → HasBytes n → Makes s.ids n t (builder s n t)
  built_again s (node o ns) t d bytes =
      going s.ids (node o ns) t (known_id s.ids o.index) _ (λ id e.
      registered s o (kids s ns) ns id (build_foreign s.ids (node o ns) t) t (kind_of id s.registered) refl (place_back s.ids o.index id d (id_known s.ids o.index id e)) bytes.0 (kids_again s ns d bytes.1)
      (if_known s.ids t (node o ns) (unknown_in s.ids (node o ns)) d refl))

  kids_again : (s : Scope) (ns : Nodes) → are_distinct s.ids ≡ true → HaveBytes ns → AreKids s.ids (kids s ns) ns
  kids_again s no_nodes d bytes = tt
  kids_again s (first n ns) d bytes = (
    record {
      builds = λ t. built_again s n t d bytes.0;
      stands = λ t. stands_again s.ids n (is_flat_node s (own_of n)) (own_of n) t (builder s n t) (built_again s n t d bytes.0);
    },
    kids_again s ns d bytes.1,
  )

-- ---- what is spelled as bytes

mutual
  node_bytes : (n : Node) → AreBytes (spelling n) → HasBytes n
  node_bytes (node o ns) h =
      let a = bytes_front (own_bytes o (number_of ns)) (spellings ns) h in
      let b = bytes_back (to_le_bytes w16 o.index) (u64_bytes o.rows ++ (numbered o.metadata ++ (segment_bytes o.segments ++ u64_bytes (number_of ns)))) a in
      let c = bytes_back (u64_bytes o.rows) (numbered o.metadata ++ (segment_bytes o.segments ++ u64_bytes (number_of ns))) b in
      let m = bytes_front (numbered o.metadata) (segment_bytes o.segments ++ u64_bytes (number_of ns)) c in
      (bytes_back (u64_bytes (length o.metadata)) o.metadata m, nodes_bytes ns (bytes_back (own_bytes o (number_of ns)) (spellings ns) h))

  nodes_bytes : (ns : Nodes) → AreBytes (spellings ns) → HaveBytes ns
  nodes_bytes no_nodes h = tt
  nodes_bytes (first n ns) h = (node_bytes n (bytes_front (spelling n) (spellings ns) h), nodes_bytes ns (bytes_back (spelling n) (spellings ns) h))

spelled_by : (s : Scope) (n : Node) (t : Ty) (bytes : List ℕ) (l : LayoutData ℕ) → are_distinct s.ids ≡ true → AreBytes bytes → spelling n ≡ bytes → builder s n t ≡ Ok l → built l ≡ Ok tt
    → bytes_in s.ids l ≡ Ok bytes
spelled_by s n t bytes l d fits is e b =
    let all : AreBytes (spelling n) = subst (λ (m : List ℕ). AreBytes m) (sym is) fits in
    let p = made_again s.ids n t (builder s n t) l (built_again s n t d (node_bytes n all)) e b in
    rw (p.0, b, p.1, is) refl

parsed_again : (s : Scope) (t : Ty) (deep nodes : ℕ) (bytes : List ℕ) (l : LayoutData ℕ) → are_distinct s.ids ≡ true → AreBytes bytes → parsed s t deep nodes bytes ≡ Ok l → built l ≡ Ok tt
    → bytes_in s.ids l ≡ Ok bytes
parsed_again s t deep nodes bytes l d fits e b = go (root_at deep nodes bytes) refl
  where
    go : (r : Result Node Fault) → root_at deep nodes bytes ≡ r → bytes_in s.ids l ≡ Ok bytes
    go (Ok n) is = let p : parsed s t deep nodes bytes ≡ builder s n t = rw is refl in spelled_by s n t bytes l d fits (root_takes deep nodes bytes n fits is).1 (sym p ∙ e) b
    go (Err fault) is = let p : parsed s t deep nodes bytes ≡ Err (refused_by fault) = rw is refl in absurd (cc (p, e))

pub the_law : ParsedIsSpelled
the_law s t deep nodes bytes l distinct fits made whole = parsed_again s t deep nodes bytes l distinct fits made whole

pub ruleset again_rules = (the_law)
