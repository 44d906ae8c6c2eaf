-- The node that a sound layout is in a context is built into that layout.
use Rattle.std.proofs.Common.{◌≡◌, ℕ, zero, suc, ◌+◌, ◌-◌, ◌<◌, ◌^◌, Bool, true, false, List, [], ◌∷◌, length, map, Option, Some, None, Result, Ok, Err, refl, sym, ap, subst, ◌∙◌, arith, eq-eqb}
use Rattle.std.specs.Prelude.{◌==◌, codes, bytes_eq, if◌then◌else◌, IsTrue}
use Rattle.std.specs.Cmp.Lexicographic.{bytes_decides}
use Rattle.vx_model.specs.declared.encoding.EncodingId.{EncodingId}
use Rattle.vx_model.specs.declared.ptype.PType.{PType}
use Rattle.vx_model.specs.Words.{total_by}
use Rattle.vx_model.specs.Ty.{Ty, primitive, struct, no_fields, nullable, is_list, is_struct}
use Rattle.vx_layout_spec.specs.Refusal.{Refusal, child_count, other_rows, no_list, no_struct, unknown_index, not_permitted}
use Rattle.vx_layout_spec.specs.LayoutTree.{Spec, Kind, flat_kind, chunked_kind, struct_kind, list_kind, dict_kind, zoned_kind, unread_zoned_kind, stats_kind, foreign_kind, refused_kind, kind_id, LayoutData, LayoutList, layout, no_layouts, child, lays_of, lays_in, layout_type, row_count}
use Rattle.vx_aggregate_spec.specs.Aggregate.{Aggregate, spec}
use Rattle.vx_aggregate.specs.declared.stat.Stat.{Stat}
use Rattle.vx_aggregate.specs.Stats.{stat_number}
use Rattle.vx_aggregate.specs.Tables.{stats_table, legacy_table}
use Rattle.vx_metadata.specs.Kept.{offsets_kept, codes_kept, second_type, stats_bytes, number_bit, kind_metadata}
use Rattle.vx_metadata.specs.Reading.{flat_in, list_in, dict_in, zoned_in, legacy_in}
use Rattle.vx_metadata.specs.Spelled.{flat_bytes, list_bytes, dict_bytes, zoned_bytes, legacy_bytes, stat_bit}
use Rattle.vx_metadata.specs.Values.{Zoned, IsZoned, are_in_order}
use Rattle.vx_metadata.proofs.SmallLaws.{dict_again, list_again}
use Rattle.vx_metadata.proofs.SpecLaws.{zoned_again}
use Rattle.vx_metadata.proofs.StatLaws.{legacy_again}
use Rattle.vx_layout_bytes.specs.Node.{Own, Node, Nodes, node, no_nodes, first, own_of}
use Rattle.vx_layout_bytes.specs.Values.{IsWithin}
use Rattle.vx_layout_bytes.specs.Spelled.{spelling}
use Rattle.vx_layout_bytes.specs.Reading.{root_at}
use Rattle.vx_layout_bytes.proofs.NodeLaws.{root_again}
use Rattle.vx_session.specs.declared.encoding.LayoutEncoding.{LayoutEncoding}
use Rattle.vx_session.specs.declared.encoding.LayoutEncoding.TheVariants as kinds
use Rattle.vx_session.specs.Encodings.{layout_id, kind_of}
use Rattle.vx_session.specs.Ids.{id_at, place_of, further}
use Rattle.vx_session.specs.Scope.{Context, Scope}
use Rattle.vx_session.specs.Made.{Made, ◌>>=◌, needs, ChildData, kid_rows, child_at, rows_at, standing_at, all_stand, each_stands, all_have_rows}
use Rattle.vx_session.specs.Kinds.{Parts, struct_types, validity_type, validity_types, element_type, build_validity, build_offsets, read_specs, build_flat, build_chunked, build_struct, build_list, build_dict, build_zoned, build_zones, build_stats, build_kind}
use Rattle.vx_session.specs.Builder.{unknown_in, unknown_among, earlier, unknown_here, foreign, all_foreign, id_or_none, build_foreign, known_id, own_parts, build_registered, build_own, kid_of, builder, kids}
use Rattle.vx_layout_codec_spec.specs.Permitted.{Checked, and_checked, listed, permitted, all_permitted, built}
use Rattle.vx_layout_codec_spec.specs.NodeOf.{or_first, own_in, node_in, nodes_in}
use Rattle.vx_layout_codec_spec.specs.Bytes.{unless_refused, bytes_in}
use Rattle.vx_layout_codec_spec.specs.Parsed.{parsed}
use Rattle.vx_layout_codec_spec.specs.Sound.{Knows, types_of, AreOf, HaveRows, SoundFlat, SoundChunked, SoundStruct, SoundList, SoundDict, SoundZoned, SoundUnread, SoundStats, SoundForeign, IsForeign, AreForeign, Sound, AreSound}
use Rattle.vx_layout_codec_spec.specs.Again.{SpelledIsParsed}

-- ---- children

-- what a child builds is the layout
pub record IsKid (k : ChildData) (l : LayoutData ℕ) : Type 0 where
  pub rows : k.rows ≡ row_count l
  pub builds : k.build (layout_type l) ≡ Ok l
  pub stands : k.stands (layout_type l) ≡ l

abbrev pub AreKids : List ChildData → List (LayoutData ℕ) → Type 0
AreKids [] [] = Unit {0}
AreKids [] (l ∷ ls) = ⊥
AreKids (k ∷ ks) [] = ⊥
AreKids (k ∷ ks) (l ∷ ls) = IsKid k l × AreKids ks ls

needs_met : (n m : ℕ) (refusal : Refusal) → n ≡ m → needs (n == m) refusal ≡ Ok tt
needs_met n m refusal e = rw (eq-eqb n m e) refl

same_count : (ks : List ChildData) (ls : List (LayoutData ℕ)) → AreKids ks ls → length ks ≡ length ls
same_count [] [] are = refl
same_count [] (l ∷ ls) are = absurd are
same_count (k ∷ ks) [] are = absurd are
same_count (k ∷ ks) (l ∷ ls) are = let e = same_count ks ls are.1 in omega (arith, e)

same_rows : (ks : List ChildData) (ls : List (LayoutData ℕ)) → AreKids ks ls → total_by kid_rows ks ≡ total_by row_count ls
same_rows [] [] are = refl
same_rows [] (l ∷ ls) are = absurd are
same_rows (k ∷ ks) [] are = absurd are
same_rows (k ∷ ks) (l ∷ ls) are = rw (are.0.rows, same_rows ks ls are.1) refl

builds_at : (k : ChildData) (l : LayoutData ℕ) (t : Ty) → IsKid k l → layout_type l ≡ t → k.build t ≡ Ok l
builds_at k l t is e = subst (λ (u : Ty). k.build u ≡ Ok l) e is.builds

stands_at : (k : ChildData) (l : LayoutData ℕ) (t : Ty) → IsKid k l → layout_type l ≡ t → k.stands t ≡ l
stands_at k l t is e = subst (λ (u : Ty). k.stands u ≡ l) e is.stands

all_back : (t : Ty) (ks : List ChildData) (ls : List (LayoutData ℕ)) → AreKids ks ls → AreOf t ls → all_stand t ks ≡ ls
all_back t [] [] are types = refl
all_back t [] (l ∷ ls) are types = absurd are
all_back t (k ∷ ks) [] are types = absurd are
all_back t (k ∷ ks) (l ∷ ls) are types = rw (stands_at k l t are.0 types.0, all_back t ks ls are.1 types.1) refl

each_back : (ts : List Ty) (ks : List ChildData) (ls : List (LayoutData ℕ)) → AreKids ks ls → types_of ls ≡ ts → each_stands ts ks ≡ ls
each_back [] [] [] are types = refl
each_back [] [] (l ∷ ls) are types = absurd are
each_back [] (k ∷ ks) [] are types = absurd are
each_back [] (k ∷ ks) (l ∷ ls) are types = absurd (cc types)
each_back (t ∷ ts) [] [] are types = absurd (cc types)
each_back (t ∷ ts) [] (l ∷ ls) are types = absurd are
each_back (t ∷ ts) (k ∷ ks) [] are types = absurd are
each_back (t ∷ ts) (k ∷ ks) (l ∷ ls) are types =
    let one : layout_type l ≡ t = cc types in
    let others : types_of ls ≡ ts = cc types in
    rw (stands_at k l t are.0 one, each_back ts ks ls are.1 others) refl

types_count : (ls : List (LayoutData ℕ)) → length (types_of ls) ≡ length ls
types_count [] = refl
types_count (l ∷ ls) = let e = types_count ls in omega (arith, e)

rows_back : (n : ℕ) (ks : List ChildData) (ls : List (LayoutData ℕ)) → AreKids ks ls → HaveRows n ls → all_have_rows n ks ≡ Ok tt
rows_back n [] [] are have = refl
rows_back n [] (l ∷ ls) are have = absurd are
rows_back n (k ∷ ks) [] are have = absurd are
rows_back n (k ∷ ks) (l ∷ ls) are have = rw (needs_met k.rows n (other_rows k.rows n) (are.0.rows ∙ have.0)) (rows_back n ks ls are.1 have.1)

child_zero : (ks : List ChildData) (x : LayoutData ℕ) (ls : List (LayoutData ℕ)) (t : Ty) → AreKids ks (x ∷ ls) → layout_type x ≡ t → child_at ks 0 t ≡ Ok x
child_zero [] x ls t are e = absurd are
child_zero (k ∷ ks) x ls t are e = builds_at k x t are.0 e

child_one : (ks : List ChildData) (x y : LayoutData ℕ) (ls : List (LayoutData ℕ)) (t : Ty) → AreKids ks (x ∷ y ∷ ls) → layout_type y ≡ t → child_at ks 1 t ≡ Ok y
child_one [] x y ls t are e = absurd are
child_one (k ∷ []) x y ls t are e = absurd are.1
child_one (k ∷ j ∷ ks) x y ls t are e = builds_at j y t are.1.0 e

child_two : (ks : List ChildData) (x y z : LayoutData ℕ) (ls : List (LayoutData ℕ)) (t : Ty) → AreKids ks (x ∷ y ∷ z ∷ ls) → layout_type z ≡ t → child_at ks 2 t ≡ Ok z
child_two [] x y z ls t are e = absurd are
child_two (k ∷ []) x y z ls t are e = absurd are.1
child_two (k ∷ j ∷ []) x y z ls t are e = absurd are.1.1
child_two (k ∷ j ∷ i ∷ ks) x y z ls t are e = builds_at i z t are.1.1.0 e

standing_one : (ks : List ChildData) (x y : LayoutData ℕ) (t : Ty) → AreKids ks (x ∷ y ∷ []) → layout_type y ≡ t → standing_at ks 1 t ≡ y ∷ []
standing_one [] x y t are e = absurd are
standing_one (k ∷ []) x y t are e = absurd are.1
standing_one (k ∷ j ∷ ks) x y t are e = ap (λ (l : LayoutData ℕ). l ∷ []) (stands_at j y t are.1.0 e)

rows_zero : (ks : List ChildData) (x : LayoutData ℕ) (ls : List (LayoutData ℕ)) → AreKids ks (x ∷ ls) → rows_at ks 0 ≡ row_count x
rows_zero [] x ls are = absurd are
rows_zero (k ∷ ks) x ls are = are.0.rows

-- ---- kinds

-- a layout of the kind with these children
abbrev of_kind : Kind → Parts → List (LayoutData ℕ) → Made
of_kind k p ls = Ok (layout k p.dtype p.rows p.segments (lays_of ls))

flat_back : (c : Context) (p : Parts) (tree : Option (List ℕ)) (segment : ℕ) → p.segments ≡ segment ∷ [] → p.kids ≡ []
    → build_flat c p (flat_bytes tree) ≡ Ok (layout (flat_kind c.encodings tree) p.dtype p.rows (segment ∷ []) no_layouts)
unfolding build_flat
flat_back c p None segment one alone = rw (one, alone) refl
flat_back c p (Some tree) segment one alone = rw (one, alone) refl

chunked_back : (p : Parts) (ls : List (LayoutData ℕ)) → AreKids p.kids ls → AreOf p.dtype ls → total_by row_count ls ≡ p.rows → build_chunked p [] ≡ of_kind chunked_kind p ls
unfolding build_chunked
chunked_back p ls are types rows =
    rw (needs_met (total_by kid_rows p.kids) p.rows (other_rows (total_by kid_rows p.kids) p.rows) (same_rows p.kids ls are ∙ rows), all_back p.dtype p.kids ls are types) refl

struct_back : (p : Parts) (ls : List (LayoutData ℕ)) → AreKids p.kids ls → is_struct p.dtype ≡ true → types_of ls ≡ struct_types p.dtype → HaveRows p.rows ls → build_struct p [] ≡ of_kind struct_kind p ls
unfolding build_struct
struct_back p ls are of_structs types rows =
    let count : length p.kids ≡ length (struct_types p.dtype) = same_count p.kids ls are ∙ (sym (types_count ls) ∙ ap length types) in
    rw (
      of_structs,
      needs_met (length p.kids) (length (struct_types p.dtype)) (child_count (length p.kids) (length (struct_types p.dtype))) count,
      rows_back p.rows p.kids ls are rows,
      each_back (struct_types p.dtype) p.kids ls are types,
    ) refl

no_types : (ls : List (LayoutData ℕ)) → types_of ls ≡ [] → [] ≡ ls
no_types [] e = refl
no_types (l ∷ ls) e = absurd (cc e)

validity_there : (p : Parts) (x y : LayoutData ℕ) (vs : List (LayoutData ℕ)) → nullable p.dtype ≡ true → AreKids p.kids (x ∷ y ∷ vs) → types_of vs ≡ validity_type ∷ [] → HaveRows p.rows vs → build_validity p ≡ Ok vs
validity_there p x y [] is are types rows = absurd (cc types)
validity_there p x y (v ∷ []) is are types rows =
    let e : layout_type v ≡ validity_type = cc types in
    rw (is, child_two p.kids x y v [] validity_type are e, needs_met (row_count v) p.rows (other_rows (row_count v) p.rows) rows.0) refl
validity_there p x y (v ∷ w ∷ vs) is are types rows = absurd (cc types)

validity_back : (p : Parts) (x y : LayoutData ℕ) (vs : List (LayoutData ℕ)) → AreKids p.kids (x ∷ y ∷ vs) → types_of vs ≡ validity_types p.dtype → HaveRows p.rows vs → build_validity p ≡ Ok vs
validity_back p x y vs are types rows = go (nullable p.dtype) refl
  where
    go : (b : Bool) → nullable p.dtype ≡ b → build_validity p ≡ Ok vs
    go true is = validity_there p x y vs is are (types ∙ rw is refl) rows
    go false is =
        let none : types_of vs ≡ [] = types ∙ rw is refl in
        rw is (ap (λ (ls : List (LayoutData ℕ)). Ok ls) (no_types vs none))

offsets_back : (p : Parts) (integers : PType) (x y : LayoutData ℕ) (vs : List (LayoutData ℕ)) → AreKids p.kids (x ∷ y ∷ vs) → layout_type x ≡ element_type p.dtype → layout_type y ≡ primitive integers false
    → types_of vs ≡ validity_types p.dtype → row_count y - 1 ≡ p.rows → HaveRows p.rows vs → build_offsets p integers ≡ of_kind list_kind p (x ∷ y ∷ vs)
unfolding build_offsets
offsets_back p integers x y vs are one other types rows flags =
    let more : length vs ≡ length (validity_types p.dtype) = sym (types_count vs) ∙ ap length types in
    let all = same_count p.kids (x ∷ y ∷ vs) are in
    let count : length p.kids ≡ 2 + length (validity_types p.dtype) = omega (arith, all, more) in
    rw (
      needs_met (length p.kids) (2 + length (validity_types p.dtype)) (child_count (length p.kids) (2 + length (validity_types p.dtype))) count,
      child_zero p.kids x (y ∷ vs) (element_type p.dtype) are one,
      child_one p.kids x y vs (primitive integers false) are other,
      needs_met (row_count y - 1) p.rows (other_rows (row_count y - 1) p.rows) rows,
      validity_back p x y vs are types flags,
    ) refl

list_back : (p : Parts) (integers : PType) (x y : LayoutData ℕ) (vs : List (LayoutData ℕ)) → AreKids p.kids (x ∷ y ∷ vs) → is_list p.dtype ≡ true
    → types_of (x ∷ y ∷ vs) ≡ element_type p.dtype ∷ primitive integers false ∷ validity_types p.dtype → row_count y - 1 ≡ p.rows → HaveRows p.rows vs
    → build_list p (list_bytes (offsets_kept (second_type (x ∷ y ∷ vs)))) ≡ of_kind list_kind p (x ∷ y ∷ vs)
unfolding build_list
list_back p integers x y vs are of_lists types rows flags =
    let one : layout_type x ≡ element_type p.dtype = cc types in
    let other : layout_type y ≡ primitive integers false = cc types in
    let more : types_of vs ≡ validity_types p.dtype = cc types in
    rw (other, list_again (offsets_kept (primitive integers false)), of_lists) (offsets_back p integers x y vs are one other more rows flags)

dict_back : (p : Parts) (all : Bool) (integers : PType) (null : Bool) (x y : LayoutData ℕ) → AreKids p.kids (x ∷ y ∷ []) → types_of (x ∷ y ∷ []) ≡ p.dtype ∷ primitive integers null ∷ [] → row_count y ≡ p.rows
    → build_dict p (dict_bytes (codes_kept (second_type (x ∷ y ∷ [])) all)) ≡ of_kind (dict_kind all) p (x ∷ y ∷ [])
unfolding build_dict
dict_back p all integers null x y are types rows =
    let one : layout_type x ≡ p.dtype = cc types in
    let other : layout_type y ≡ primitive integers null = cc types in
    rw (
      other,
      dict_again (codes_kept (primitive integers null) all),
      needs_met (length p.kids) 2 (child_count (length p.kids) 2) (same_count p.kids (x ∷ y ∷ []) are),
      child_zero p.kids x (y ∷ []) p.dtype are one,
      child_one p.kids x y [] (primitive integers null) are other,
      needs_met (row_count y) p.rows (other_rows (row_count y) p.rows) rows,
    ) refl

zoned_back : (c : Context) (p : Parts) (zone_len : ℕ) (specs : List Spec) (aggregates : List Aggregate) (x y : LayoutData ℕ) → IsZoned (record { zone_len = zone_len; specs = specs })
    → read_specs c specs ≡ Ok (Some aggregates) → map spec aggregates ≡ specs → AreKids p.kids (x ∷ y ∷ []) → types_of (x ∷ y ∷ []) ≡ p.dtype ∷ stats_table p.dtype aggregates ∷ [] → row_count x ≡ p.rows
    → build_zoned c p (zoned_bytes (record { zone_len = zone_len; specs = specs })) ≡ of_kind (zoned_kind zone_len specs) p (x ∷ y ∷ [])
unfolding build_zoned
zoned_back c p zone_len specs aggregates x y fits read named are types rows =
    let one : layout_type x ≡ p.dtype = cc types in
    let other : layout_type y ≡ stats_table p.dtype aggregates = cc types in
    rw (
      zoned_again (record { zone_len = zone_len; specs = specs }) fits,
      needs_met (length p.kids) 2 (child_count (length p.kids) 2) (same_count p.kids (x ∷ y ∷ []) are),
      needs_met (rows_at p.kids 0) p.rows (other_rows (rows_at p.kids 0) p.rows) (rows_zero p.kids x (y ∷ []) are ∙ rows),
      read,
      child_zero p.kids x (y ∷ []) p.dtype are one,
      child_one p.kids x y [] (stats_table p.dtype aggregates) are other,
      named,
    ) refl

unread_back : (c : Context) (p : Parts) (metadata : List ℕ) (zoned : Zoned) (x y : LayoutData ℕ) → zoned_in metadata ≡ Some zoned → read_specs c zoned.specs ≡ Ok None → AreKids p.kids (x ∷ y ∷ [])
    → types_of (x ∷ y ∷ []) ≡ p.dtype ∷ struct no_fields false ∷ [] → row_count x ≡ p.rows → build_zoned c p metadata ≡ of_kind (unread_zoned_kind metadata) p (x ∷ y ∷ [])
unfolding build_zoned
unread_back c p metadata zoned x y is read are types rows =
    let one : layout_type x ≡ p.dtype = cc types in
    let other : layout_type y ≡ struct no_fields false = cc types in
    rw (
      is,
      needs_met (length p.kids) 2 (child_count (length p.kids) 2) (same_count p.kids (x ∷ y ∷ []) are),
      needs_met (rows_at p.kids 0) p.rows (other_rows (rows_at p.kids 0) p.rows) (rows_zero p.kids x (y ∷ []) are ∙ rows),
      read,
      child_zero p.kids x (y ∷ []) p.dtype are one,
      standing_one p.kids x y (struct no_fields false) are other,
    ) refl

same_bits : (ss : List Stat) → total_by number_bit (map stat_number ss) ≡ total_by stat_bit ss
same_bits [] = refl
same_bits (s ∷ ss) = ap (λ (n : ℕ). stat_bit s + n) (same_bits ss)

stats_back : (p : Parts) (zone_len : ℕ) (stats : List Stat) (x y : LayoutData ℕ) → zone_len < 2 ^ 32 → IsTrue (are_in_order stats) → AreKids p.kids (x ∷ y ∷ []) → types_of (x ∷ y ∷ []) ≡ p.dtype ∷ legacy_table p.dtype stats ∷ []
    → build_stats p (stats_bytes zone_len (map stat_number stats)) ≡ of_kind (stats_kind zone_len (map stat_number stats)) p (x ∷ y ∷ [])
unfolding build_stats
stats_back p zone_len stats x y short order are types =
    let one : layout_type x ≡ p.dtype = cc types in
    let other : layout_type y ≡ legacy_table p.dtype stats = cc types in
    rw (
      same_bits stats,
      legacy_again zone_len stats short order,
      needs_met (length p.kids) 2 (child_count (length p.kids) 2) (same_count p.kids (x ∷ y ∷ []) are),
      child_zero p.kids x (y ∷ []) p.dtype are one,
      child_one p.kids x y [] (legacy_table p.dtype stats) are other,
    ) refl

-- ---- ids

same_id : (a b : List ℕ) → bytes_eq a b ≡ true → a ≡ b
same_id a b e = (bytes_decides a b).0 e

found_again : (ids : List (List ℕ)) (id : List ℕ) (place : ℕ) → place_of id ids ≡ Some place → id_at ids place ≡ Some id
found_again [] id place e = absurd (cc e)
found_again (x ∷ ids) id place e = go (bytes_eq x id) refl (place_of id ids) (λ n rest. found_again ids id n rest) e
  where
    go : (b : Bool) → bytes_eq x id ≡ b → (o : Option ℕ) → ((n : ℕ) → o ≡ Some n → id_at ids n ≡ Some id) → (if b then Some 0 else further o) ≡ Some place → id_at (x ∷ ids) place ≡ Some id
    go true is o found e = let here : 0 ≡ place = cc e in subst (λ (n : ℕ). id_at (x ∷ ids) n ≡ Some id) here (ap (λ (t : List ℕ). Some t) (same_id x id is))
    go false is None found e = absurd (cc e)
    go false is (Some n) found e = let there : suc n ≡ place = cc e in subst (λ (m : ℕ). id_at (x ∷ ids) m ≡ Some id) there (found n refl)

-- the id that stands at its own place
id_back : (ids : List (List ℕ)) (id : List ℕ) → listed ids id ≡ Ok tt → id_at ids (or_first (place_of id ids)) ≡ Some id
id_back ids id h = go (place_of id ids) refl
  where
    go : (o : Option ℕ) → place_of id ids ≡ o → id_at ids (or_first (place_of id ids)) ≡ Some id
    go None is = let f : listed ids id ≡ Err (not_permitted id) = rw is refl in absurd (cc (f, h))
    go (Some place) is = rw is (found_again ids id place is)

known_back : (ids : List (List ℕ)) (id : List ℕ) → listed ids id ≡ Ok tt → known_id ids (or_first (place_of id ids)) ≡ Ok id
known_back ids id h = rw (id_back ids id h) refl

both_checked : (a b : Checked) → and_checked a b ≡ Ok tt → (a ≡ Ok tt) × (b ≡ Ok tt)
both_checked (Ok u) b e = (refl, e)
both_checked (Err r) b e = absurd (cc e)

own_back : (s : Scope) (o : Own) (ks : List ChildData) (other : Ty → Made) (t : Ty) (kind : LayoutEncoding) → known_id s.ids o.index ≡ Ok (layout_id kind) → Knows s kind
    → build_own s o ks other t ≡ build_kind kind s.context (own_parts o ks t) o.metadata
own_back s o ks other t kind known knows = rw (known, knows) refl

-- ---- foreign nodes

pub lays_back : (ls : LayoutList ℕ) → lays_of (lays_in ls) ≡ ls
lays_back no_layouts = refl
lays_back (child l ls) = ap (child l) (lays_back ls)

here_listed : (index : ℕ) (o : Option (List ℕ)) (id : List ℕ) (below : Option ℕ) → o ≡ Some id → below ≡ None → unknown_here index o below ≡ None
here_listed index o id below e none = rw (e, none) refl

mutual
  none_unknown : (ids : List (List ℕ)) (t : Ty) (l : LayoutData ℕ) → permitted ids l ≡ Ok tt → IsForeign t l → unknown_in ids (node_in ids l) ≡ None
  none_unknown ids t (layout (foreign_kind id m) u n names ls) h is =
      let p = both_checked (listed ids id) (all_permitted ids ls) h in
      here_listed _ _ id _ (id_back ids id p.0) (none_among ids t ls p.1 is.2)
  none_unknown ids t (layout (flat_kind e m) u n names ls) h is = absurd is.0
  none_unknown ids t (layout chunked_kind u n names ls) h is = absurd is.0
  none_unknown ids t (layout struct_kind u n names ls) h is = absurd is.0
  none_unknown ids t (layout list_kind u n names ls) h is = absurd is.0
  none_unknown ids t (layout (dict_kind a) u n names ls) h is = absurd is.0
  none_unknown ids t (layout (zoned_kind z a) u n names ls) h is = absurd is.0
  none_unknown ids t (layout (unread_zoned_kind m) u n names ls) h is = absurd is.0
  none_unknown ids t (layout (stats_kind z a) u n names ls) h is = absurd is.0
  none_unknown ids t (layout (refused_kind f r) u n names ls) h is = absurd is.0

  none_among : (ids : List (List ℕ)) (t : Ty) (ls : LayoutList ℕ) → all_permitted ids ls ≡ Ok tt → AreForeign t ls → unknown_among ids (nodes_in ids ls) ≡ None
  none_among ids t no_layouts h are = refl
  none_among ids t (child l ls) h are =
      let p = both_checked (permitted ids l) (all_permitted ids ls) h in
      rw (none_unknown ids t l p.0 are.0) (none_among ids t ls p.1 are.1)

foreign_own : (ids : List (List ℕ)) (t u : Ty) (id metadata : List ℕ) (n : ℕ) (names : List ℕ) (ls others : LayoutList ℕ) → id_at ids (or_first (place_of id ids)) ≡ Some id → u ≡ t → others ≡ ls
    → layout (foreign_kind (id_or_none (id_at ids (or_first (place_of id ids)))) metadata) t n names others ≡ layout (foreign_kind id metadata) u n names ls
foreign_own ids t u id metadata n names ls others at same below = rw (at, same, below) refl

mutual
  foreign_back : (ids : List (List ℕ)) (t : Ty) (l : LayoutData ℕ) → permitted ids l ≡ Ok tt → IsForeign t l → foreign ids t (node_in ids l) ≡ l
  foreign_back ids t (layout (foreign_kind id m) u n names ls) h is =
      let p = both_checked (listed ids id) (all_permitted ids ls) h in
      foreign_own ids t u id m n names ls (all_foreign ids t (nodes_in ids ls)) (id_back ids id p.0) is.1 (foreigns_back ids t ls p.1 is.2)
  foreign_back ids t (layout (flat_kind e m) u n names ls) h is = absurd is.0
  foreign_back ids t (layout chunked_kind u n names ls) h is = absurd is.0
  foreign_back ids t (layout struct_kind u n names ls) h is = absurd is.0
  foreign_back ids t (layout list_kind u n names ls) h is = absurd is.0
  foreign_back ids t (layout (dict_kind a) u n names ls) h is = absurd is.0
  foreign_back ids t (layout (zoned_kind z a) u n names ls) h is = absurd is.0
  foreign_back ids t (layout (unread_zoned_kind m) u n names ls) h is = absurd is.0
  foreign_back ids t (layout (stats_kind z a) u n names ls) h is = absurd is.0
  foreign_back ids t (layout (refused_kind f r) u n names ls) h is = absurd is.0

  foreigns_back : (ids : List (List ℕ)) (t : Ty) (ls : LayoutList ℕ) → all_permitted ids ls ≡ Ok tt → AreForeign t ls → all_foreign ids t (nodes_in ids ls) ≡ ls
  foreigns_back ids t no_layouts h are = refl
  foreigns_back ids t (child l ls) h are =
      let p = both_checked (permitted ids l) (all_permitted ids ls) h in
      rw (foreign_back ids t l p.0 are.0, foreigns_back ids t ls p.1 are.1) refl

foreign_built : (s : Scope) (t : Ty) (l : LayoutData ℕ) → permitted s.ids l ≡ Ok tt → IsForeign t l → build_foreign s.ids (node_in s.ids l) t ≡ Ok l
foreign_built s t l h is = rw (none_unknown s.ids t l h is, foreign_back s.ids t l h is) refl

foreign_known : (s : Scope) (o : Own) (ks : List ChildData) (other : Ty → Made) (t : Ty) (id : List ℕ) → known_id s.ids o.index ≡ Ok id → SoundForeign s id → build_own s o ks other t ≡ other t
foreign_known s o ks other t id known sound = rw (known, sound.unknown, sound.allowed) refl

-- ---- nodes

made_of : (k : Kind) (t : Ty) (n : ℕ) (names : List ℕ) (ls : LayoutList ℕ) (is : List (LayoutData ℕ)) → lays_in ls ≡ is → layout k t n names (lays_of is) ≡ layout k t n names ls
made_of k t n names ls is e = ap (layout k t n names) (ap lays_of (sym e) ∙ lays_back ls)

no_kids : (ks : List ChildData) (ls : List (LayoutData ℕ)) → AreKids ks ls → ls ≡ [] → ks ≡ []
no_kids [] ls are e = refl
no_kids (k ∷ ks) [] are e = absurd are
no_kids (k ∷ ks) (l ∷ ls) are e = absurd (cc e)

no_lays : (ls : LayoutList ℕ) → lays_in ls ≡ [] → ls ≡ no_layouts
no_lays no_layouts e = refl
no_lays (child l ls) e = absurd (cc e)

-- its own node, above children that build theirs
abbrev Back : Scope → Kind → Ty → ℕ → List ℕ → LayoutList ℕ → Type 0
Back s k t n names ls = listed s.ids (kind_id k) ≡ Ok tt → AreKids (kids s (nodes_in s.ids ls)) (lays_in ls) → builder s (node_in s.ids (layout k t n names ls)) t ≡ Ok (layout k t n names ls)

flat_node : (s : Scope) (e : List EncodingId) (tree : Option (List ℕ)) (t : Ty) (n : ℕ) (names : List ℕ) (ls : LayoutList ℕ) → SoundFlat s e names (lays_in ls) → Back s (flat_kind e tree) t n names ls
flat_node s e tree t n names ls sound h are =
    let l : LayoutData ℕ = layout (flat_kind e tree) t n names ls in
    let ks : List ChildData = kids s (nodes_in s.ids ls) in
    let all : layout (flat_kind s.context.encodings tree) t n (sound.segment ∷ []) no_layouts ≡ l = rw (sound.listed, sound.one, no_lays ls sound.alone) refl in
    own_back s (own_in s.ids l) ks (build_foreign s.ids (node_in s.ids l)) t kinds.Flat (known_back s.ids (codes "vortex.flat") h) sound.known
    ∙ (flat_back s.context (own_parts (own_in s.ids l) ks t) tree sound.segment sound.one (no_kids ks (lays_in ls) are sound.alone) ∙ ap (λ (m : LayoutData ℕ). Ok m) all)

chunked_node : (s : Scope) (t : Ty) (n : ℕ) (names : List ℕ) (ls : LayoutList ℕ) → SoundChunked s t n (lays_in ls) → Back s chunked_kind t n names ls
chunked_node s t n names ls sound h are =
    let l : LayoutData ℕ = layout chunked_kind t n names ls in
    let ks : List ChildData = kids s (nodes_in s.ids ls) in
    own_back s (own_in s.ids l) ks (build_foreign s.ids (node_in s.ids l)) t kinds.Chunked (known_back s.ids (codes "vortex.chunked") h) sound.known
    ∙ (chunked_back (own_parts (own_in s.ids l) ks t) (lays_in ls) are sound.types sound.rows ∙ ap (λ (m : LayoutData ℕ). Ok m) (made_of chunked_kind t n names ls (lays_in ls) refl))

struct_node : (s : Scope) (t : Ty) (n : ℕ) (names : List ℕ) (ls : LayoutList ℕ) → SoundStruct s t n (lays_in ls) → Back s struct_kind t n names ls
struct_node s t n names ls sound h are =
    let l : LayoutData ℕ = layout struct_kind t n names ls in
    let ks : List ChildData = kids s (nodes_in s.ids ls) in
    own_back s (own_in s.ids l) ks (build_foreign s.ids (node_in s.ids l)) t kinds.Struct (known_back s.ids (codes "vortex.struct") h) sound.known
    ∙ (struct_back (own_parts (own_in s.ids l) ks t) (lays_in ls) are sound.of_structs sound.types sound.rows ∙ ap (λ (m : LayoutData ℕ). Ok m) (made_of struct_kind t n names ls (lays_in ls) refl))

-- a kind with metadata, of children by name
abbrev BackOf : Scope → Kind → Ty → ℕ → List ℕ → LayoutList ℕ → List (LayoutData ℕ) → Type 0
BackOf s k t n names ls is = lays_in ls ≡ is → AreKids (kids s (nodes_in s.ids ls)) is → (kind : LayoutEncoding) → known_id s.ids (own_in s.ids (layout k t n names ls)).index ≡ Ok (layout_id kind) → Knows s kind
    → build_kind kind s.context (own_parts (own_in s.ids (layout k t n names ls)) (kids s (nodes_in s.ids ls)) t) (kind_metadata k (second_type is)) ≡ Ok (layout k t n names (lays_of is))
    → builder s (node_in s.ids (layout k t n names ls)) t ≡ Ok (layout k t n names ls)

back_of : (s : Scope) (k : Kind) (t : Ty) (n : ℕ) (names : List ℕ) (ls : LayoutList ℕ) (is : List (LayoutData ℕ)) → BackOf s k t n names ls is
back_of s k t n names ls is same are kind known knows made =
    let l : LayoutData ℕ = layout k t n names ls in
    let ks : List ChildData = kids s (nodes_in s.ids ls) in
    own_back s (own_in s.ids l) ks (build_foreign s.ids (node_in s.ids l)) t kind known knows
    ∙ (ap (λ (js : List (LayoutData ℕ)). build_kind kind s.context (own_parts (own_in s.ids l) ks t) (kind_metadata k (second_type js))) same
    ∙ (made ∙ ap (λ (m : LayoutData ℕ). Ok m) (made_of k t n names ls is same)))

-- children by name
renamed_kids : (ks : List ChildData) (ls is : List (LayoutData ℕ)) → AreKids ks ls → ls ≡ is → AreKids ks is
renamed_kids ks ls is are e = subst (AreKids ks) e are

list_node : (s : Scope) (t : Ty) (n : ℕ) (names : List ℕ) (ls : LayoutList ℕ) → SoundList s t n (lays_in ls) → Back s list_kind t n names ls
list_node s t n names ls sound h are =
    let is : List (LayoutData ℕ) = sound.elements ∷ sound.offsets ∷ sound.validity in
    let ks : List ChildData = kids s (nodes_in s.ids ls) in
    let named : AreKids ks is = renamed_kids ks (lays_in ls) is are sound.are in
    let types : types_of is ≡ element_type t ∷ primitive sound.integers false ∷ validity_types t = ap types_of (sym sound.are) ∙ sound.types in
    back_of s list_kind t n names ls is sound.are named kinds.List (known_back s.ids (codes "vortex.list") h) sound.known
    (list_back (own_parts (own_in s.ids (layout list_kind t n names ls)) ks t) sound.integers sound.elements sound.offsets sound.validity named sound.of_lists types sound.rows sound.flags)

dict_node : (s : Scope) (all : Bool) (t : Ty) (n : ℕ) (names : List ℕ) (ls : LayoutList ℕ) → SoundDict s t n (lays_in ls) → Back s (dict_kind all) t n names ls
dict_node s all t n names ls sound h are =
    let is : List (LayoutData ℕ) = sound.values ∷ sound.places ∷ [] in
    let ks : List ChildData = kids s (nodes_in s.ids ls) in
    let named : AreKids ks is = renamed_kids ks (lays_in ls) is are sound.are in
    let types : types_of is ≡ t ∷ primitive sound.integers sound.nullable ∷ [] = ap types_of (sym sound.are) ∙ sound.types in
    back_of s (dict_kind all) t n names ls is sound.are named kinds.Dict (known_back s.ids (codes "vortex.dict") h) sound.known
    (dict_back (own_parts (own_in s.ids (layout (dict_kind all) t n names ls)) ks t) all sound.integers sound.nullable sound.values sound.places named types sound.rows)

zoned_node : (s : Scope) (zone_len : ℕ) (specs : List Spec) (t : Ty) (n : ℕ) (names : List ℕ) (ls : LayoutList ℕ) → SoundZoned s zone_len specs t n (lays_in ls) → Back s (zoned_kind zone_len specs) t n names ls
zoned_node s zone_len specs t n names ls sound h are =
    let is : List (LayoutData ℕ) = sound.column ∷ sound.zones ∷ [] in
    let ks : List ChildData = kids s (nodes_in s.ids ls) in
    let named : AreKids ks is = renamed_kids ks (lays_in ls) is are sound.are in
    let types : types_of is ≡ t ∷ stats_table t sound.aggregates ∷ [] = ap types_of (sym sound.are) ∙ sound.types in
    back_of s (zoned_kind zone_len specs) t n names ls is sound.are named kinds.Zoned (known_back s.ids (codes "vortex.zoned") h) sound.known
    (zoned_back s.context (own_parts (own_in s.ids (layout (zoned_kind zone_len specs) t n names ls)) ks t) zone_len specs sound.aggregates sound.column sound.zones sound.fits sound.read sound.named named types sound.rows)

unread_node : (s : Scope) (metadata : List ℕ) (t : Ty) (n : ℕ) (names : List ℕ) (ls : LayoutList ℕ) → SoundUnread s metadata t n (lays_in ls) → Back s (unread_zoned_kind metadata) t n names ls
unread_node s metadata t n names ls sound h are =
    let is : List (LayoutData ℕ) = sound.column ∷ sound.zones ∷ [] in
    let ks : List ChildData = kids s (nodes_in s.ids ls) in
    let named : AreKids ks is = renamed_kids ks (lays_in ls) is are sound.are in
    let types : types_of is ≡ t ∷ struct no_fields false ∷ [] = ap types_of (sym sound.are) ∙ sound.types in
    back_of s (unread_zoned_kind metadata) t n names ls is sound.are named kinds.Zoned (known_back s.ids (codes "vortex.zoned") h) sound.known
    (unread_back s.context (own_parts (own_in s.ids (layout (unread_zoned_kind metadata) t n names ls)) ks t) metadata sound.zoned sound.column sound.zones sound.spelled sound.read named types sound.rows)

stats_node : (s : Scope) (zone_len : ℕ) (numbers : List ℕ) (t : Ty) (n : ℕ) (names : List ℕ) (ls : LayoutList ℕ) → SoundStats s zone_len numbers t (lays_in ls) → Back s (stats_kind zone_len numbers) t n names ls
stats_node s zone_len numbers t n names ls sound h are =
    let is : List (LayoutData ℕ) = sound.column ∷ sound.zones ∷ [] in
    let ks : List ChildData = kids s (nodes_in s.ids ls) in
    let named : AreKids ks is = renamed_kids ks (lays_in ls) is are sound.are in
    let types : types_of is ≡ t ∷ legacy_table t sound.stats ∷ [] = ap types_of (sym sound.are) ∙ sound.types in
    let P : List ℕ → Type 0 = λ ms. builder s (node_in s.ids (layout (stats_kind zone_len ms) t n names ls)) t ≡ Ok (layout (stats_kind zone_len ms) t n names ls) in
    subst P (sym sound.numbered)
    (back_of s (stats_kind zone_len (map stat_number sound.stats)) t n names ls is sound.are named kinds.LegacyStats (known_back s.ids (codes "vortex.stats") h) sound.known
    (stats_back (own_parts (own_in s.ids (layout (stats_kind zone_len (map stat_number sound.stats)) t n names ls)) ks t) zone_len sound.stats sound.column sound.zones sound.short sound.order named types))

foreign_node : (s : Scope) (id metadata : List ℕ) (t : Ty) (n : ℕ) (names : List ℕ) (ls : LayoutList ℕ) → SoundForeign s id → AreForeign t ls → permitted s.ids (layout (foreign_kind id metadata) t n names ls) ≡ Ok tt
    → builder s (node_in s.ids (layout (foreign_kind id metadata) t n names ls)) t ≡ Ok (layout (foreign_kind id metadata) t n names ls)
foreign_node s id metadata t n names ls sound below h =
    let l : LayoutData ℕ = layout (foreign_kind id metadata) t n names ls in
    let p = both_checked (listed s.ids id) (all_permitted s.ids ls) h in
    foreign_known s (own_in s.ids l) (kids s (nodes_in s.ids ls)) (build_foreign s.ids (node_in s.ids l)) t id (known_back s.ids id p.0) sound ∙ foreign_built s t l h (tt, refl, below)

own_rows : (ids : List (List ℕ)) (l : LayoutData ℕ) → (own_of (node_in ids l)).rows ≡ row_count l
own_rows ids (layout k t n names ls) = refl

kid_is : (s : Scope) (l : LayoutData ℕ) → builder s (node_in s.ids l) (layout_type l) ≡ Ok l → IsKid (kid_of s (own_of (node_in s.ids l)) (builder s (node_in s.ids l))) l
kid_is s l made = record { rows = own_rows s.ids l; builds = made; stands = rw made refl }

mutual
  built_back : (s : Scope) (l : LayoutData ℕ) → permitted s.ids l ≡ Ok tt → Sound s l → builder s (node_in s.ids l) (layout_type l) ≡ Ok l
  built_back s (layout (flat_kind e tree) t n names ls) h sound =
      let p = both_checked (listed s.ids (codes "vortex.flat")) (all_permitted s.ids ls) h in
      flat_node s e tree t n names ls sound.0 p.0 (kids_back s ls p.1 sound.1)
  built_back s (layout chunked_kind t n names ls) h sound =
      let p = both_checked (listed s.ids (codes "vortex.chunked")) (all_permitted s.ids ls) h in
      chunked_node s t n names ls sound.0 p.0 (kids_back s ls p.1 sound.1)
  built_back s (layout struct_kind t n names ls) h sound =
      let p = both_checked (listed s.ids (codes "vortex.struct")) (all_permitted s.ids ls) h in
      struct_node s t n names ls sound.0 p.0 (kids_back s ls p.1 sound.1)
  built_back s (layout list_kind t n names ls) h sound =
      let p = both_checked (listed s.ids (codes "vortex.list")) (all_permitted s.ids ls) h in
      list_node s t n names ls sound.0 p.0 (kids_back s ls p.1 sound.1)
  built_back s (layout (dict_kind all) t n names ls) h sound =
      let p = both_checked (listed s.ids (codes "vortex.dict")) (all_permitted s.ids ls) h in
      dict_node s all t n names ls sound.0 p.0 (kids_back s ls p.1 sound.1)
  built_back s (layout (zoned_kind zone_len specs) t n names ls) h sound =
      let p = both_checked (listed s.ids (codes "vortex.zoned")) (all_permitted s.ids ls) h in
      zoned_node s zone_len specs t n names ls sound.0 p.0 (kids_back s ls p.1 sound.1)
  built_back s (layout (unread_zoned_kind metadata) t n names ls) h sound =
      let p = both_checked (listed s.ids (codes "vortex.zoned")) (all_permitted s.ids ls) h in
      unread_node s metadata t n names ls sound.0 p.0 (kids_back s ls p.1 sound.1)
  built_back s (layout (stats_kind zone_len numbers) t n names ls) h sound =
      let p = both_checked (listed s.ids (codes "vortex.stats")) (all_permitted s.ids ls) h in
      stats_node s zone_len numbers t n names ls sound.0 p.0 (kids_back s ls p.1 sound.1)
  built_back s (layout (foreign_kind id metadata) t n names ls) h sound = foreign_node s id metadata t n names ls sound.0 sound.1 h
  built_back s (layout (refused_kind is_flat refusal) t n names ls) h sound = absurd sound.0

  kids_back : (s : Scope) (ls : LayoutList ℕ) → all_permitted s.ids ls ≡ Ok tt → AreSound s ls → AreKids (kids s (nodes_in s.ids ls)) (lays_in ls)
  kids_back s no_layouts h sound = tt
  kids_back s (child l ls) h sound =
      let p = both_checked (permitted s.ids l) (all_permitted s.ids ls) h in
      (kid_is s l (built_back s l p.0 sound.0), kids_back s ls p.1 sound.1)

-- ---- bytes

spelled_so : (a b : Checked) (text bytes : List ℕ) → unless_refused (and_checked a b) text ≡ Ok bytes → (a ≡ Ok tt) × (text ≡ bytes)
spelled_so (Ok u) (Ok v) text bytes e = (refl, cc e)
spelled_so (Ok u) (Err r) text bytes e = absurd (cc e)
spelled_so (Err r) b text bytes e = absurd (cc e)

pub the_law : SpelledIsParsed
the_law s deep nodes l bytes sound within is =
    let p = spelled_so (permitted s.ids l) (built l) (spelling (node_in s.ids l)) bytes is in
    rw (root_again deep nodes bytes (node_in s.ids l) within p.1) (built_back s l p.0 sound)

pub ruleset back_rules = (the_law)
