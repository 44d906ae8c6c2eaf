-- A node that is read is spelled so and within the limits, and what is within the limits and spelled so is read.
use Rattle.std.proofs.Common.{◌≡◌, ℕ, zero, suc, ◌+◌, ◌-◌, ◌^◌, ◌<◌, ◌≤◌, cond, eqb, List, [], ◌++◌, length, Result, Ok, Err, refl, sym, ap, subst, ◌∙◌, append_assoc, arith}
use Rattle.std.specs.Prelude.{IfOk}
use Rattle.std.specs.Int.{w16, w32, w64, to_le_bytes}
use Rattle.std.specs.List.{AllByRecursion}
use Rattle.std.proofs.lemmas.Bool.{eqb-true}
use Rattle.std.proofs.lemmas.List.{append-nil, nil_from_length}
use Rattle.vx_model.specs.Words.{joined_by}
use Rattle.vx_model.specs.CellData.{u64_bytes}
use Rattle.vx_byte_reader.specs.Places.{◌>>=◌, many_at}
use Rattle.vx_byte_reader.proofs.FieldLaws.{Takes, Takes-then, Takes-none}
use Rattle.vx_byte_reader.proofs.PlaceLaws.{bind_ok, guard_ended, ok_is, Reads, many_takes, many_again}
use Rattle.vx_layout_bytes.specs.declared.error.GrammarError.{GrammarError}
use Rattle.vx_layout_bytes.specs.Node.{Own, Node, Nodes, node, no_nodes, first, number_of}
use Rattle.vx_layout_bytes.specs.Values.{AreBytes, FitsOwn, Fits, AllFit, depth, depths, size, sizes, IsWithin}
use Rattle.vx_layout_bytes.specs.Spelled.{u32_bytes, numbered, segment_bytes, own_bytes, spelling, spellings}
use Rattle.vx_layout_bytes.specs.Reading.{bad_grammar, number_at, bytes_at, numbered_at, segments_at, own_at, ReaderOf, many_nodes, none_at, node_with, node_at, root_at}
use Rattle.vx_layout_bytes.specs.Views.{Gives}
use Rattle.vx_layout_bytes.proofs.FieldLaws.{reads_u16, reads_u32, reads_u64, bytes_take, bytes_again}

-- ---- a node's own bytes

abbrev IsNumbered : List ℕ → Type 0
IsNumbered s = length s < 2 ^ 64

reads_numbered : (stop : ℕ) → Reads (numbered_at stop) numbered IsNumbered
unfolding numbered_at
reads_numbered stop = record { takes = takes; again = again }
  where
    takes : (bytes s rest : List ℕ) → AreBytes bytes → numbered_at stop bytes ≡ Ok (s, rest) → Takes bytes (numbered s) rest × IsNumbered s
    takes bytes s rest fits e =
        let a = bind_ok (number_at w64 stop bytes) (λ width. bytes_at width.0 stop width.1) (s, rest) e in
        let t = (reads_u64 stop).takes bytes a.0.0 a.0.1 fits a.1 in
        let u = bytes_take a.0.0 stop a.0.1 s rest t.0.rest_bytes a.2 in
        let both = Takes-then bytes (u64_bytes a.0.0) a.0.1 s rest t.0 u.0 in
        (subst (λ (k : ℕ). Takes bytes (u64_bytes k ++ s) rest) (sym u.1) both, rw u.1 t.1)

    again : (s rest : List ℕ) → IsNumbered s → numbered_at stop (numbered s ++ rest) ≡ Ok (s, rest)
    again s rest kind = ap (numbered_at stop) (append_assoc (u64_bytes (length s)) s rest) ∙ rw ((reads_u64 stop).again (length s) (s ++ rest) kind) (bytes_again stop s rest)

record AreSegments (s : List ℕ) : Type 0 where
  count : length s < 2 ^ 64
  each : AllByRecursion (λ n. n < 2 ^ 32) s

reads_segments : (stop : ℕ) → Reads (segments_at stop) segment_bytes AreSegments
unfolding segments_at
reads_segments stop = record { takes = takes; again = again }
  where
    takes : (bytes s rest : List ℕ) → AreBytes bytes → segments_at stop bytes ≡ Ok (s, rest) → Takes bytes (segment_bytes s) rest × AreSegments s
    takes bytes s rest fits e =
        let a = bind_ok (number_at w64 stop bytes) (λ count. many_at (number_at w32 stop) count.0 count.1) (s, rest) e in
        let t = (reads_u64 stop).takes bytes a.0.0 a.0.1 fits a.1 in
        let u = many_takes (number_at w32 stop) u32_bytes (λ n. n < 2 ^ 32) (reads_u32 stop) a.0.0 a.0.1 (s, rest) t.0.rest_bytes a.2 in
        let both = Takes-then bytes (u64_bytes a.0.0) a.0.1 (joined_by u32_bytes s) rest t.0 u.0 in
        (subst (λ (k : ℕ). Takes bytes (u64_bytes k ++ joined_by u32_bytes s) rest) (sym u.1) both, record { count = rw u.1 t.1; each = u.2 })

    again : (s rest : List ℕ) → AreSegments s → segments_at stop (segment_bytes s ++ rest) ≡ Ok (s, rest)
    again s rest kind =
        ap (segments_at stop) (append_assoc (u64_bytes (length s)) (joined_by u32_bytes s) rest)
        ∙ rw ((reads_u64 stop).again (length s) (joined_by u32_bytes s ++ rest) kind.count) (many_again (number_at w32 stop) u32_bytes (λ n. n < 2 ^ 32) (reads_u32 stop) s rest kind.each)

pub own_takes : (stop : ℕ) (bytes : List ℕ) (x : Own × ℕ × List ℕ) → AreBytes bytes → own_at stop bytes ≡ Ok x → Takes bytes (own_bytes x.0 x.1) x.2 × FitsOwn x.0 x.1
unfolding own_at
own_takes stop bytes x fits e =
    let a = bind_ok (number_at w16 stop bytes) (λ index. number_at w64 stop index.1 >>= λ rows. numbered_at stop rows.1 >>= λ metadata. segments_at stop metadata.1 >>= λ segments. number_at w64 stop segments.1 >>= λ children. Ok (record { index = index.0; rows = rows.0; metadata = metadata.0; segments = segments.0 }, children.0, children.1)) x e in
    let b = bind_ok (number_at w64 stop a.0.1) (λ rows. numbered_at stop rows.1 >>= λ metadata. segments_at stop metadata.1 >>= λ segments. number_at w64 stop segments.1 >>= λ children. Ok (record { index = a.0.0; rows = rows.0; metadata = metadata.0; segments = segments.0 }, children.0, children.1)) x a.2 in
    let c = bind_ok (numbered_at stop b.0.1) (λ metadata. segments_at stop metadata.1 >>= λ segments. number_at w64 stop segments.1 >>= λ children. Ok (record { index = a.0.0; rows = b.0.0; metadata = metadata.0; segments = segments.0 }, children.0, children.1)) x b.2 in
    let d = bind_ok (segments_at stop c.0.1) (λ segments. number_at w64 stop segments.1 >>= λ children. Ok (record { index = a.0.0; rows = b.0.0; metadata = c.0.0; segments = segments.0 }, children.0, children.1)) x c.2 in
    let f = bind_ok (number_at w64 stop d.0.1) (λ children. Ok (record { index = a.0.0; rows = b.0.0; metadata = c.0.0; segments = d.0.0 }, children.0, children.1)) x d.2 in
    let ta = (reads_u16 stop).takes bytes a.0.0 a.0.1 fits a.1 in
    let tb = (reads_u64 stop).takes a.0.1 b.0.0 b.0.1 ta.0.rest_bytes b.1 in
    let tc = (reads_numbered stop).takes b.0.1 c.0.0 c.0.1 tb.0.rest_bytes c.1 in
    let td = (reads_segments stop).takes c.0.1 d.0.0 d.0.1 tc.0.rest_bytes d.1 in
    let tf = (reads_u64 stop).takes d.0.1 f.0.0 f.0.1 td.0.rest_bytes f.1 in
    let s3 = Takes-then c.0.1 (segment_bytes d.0.0) d.0.1 (u64_bytes f.0.0) f.0.1 td.0 tf.0 in
    let s2 = Takes-then b.0.1 (numbered c.0.0) c.0.1 (segment_bytes d.0.0 ++ u64_bytes f.0.0) f.0.1 tc.0 s3 in
    let s1 = Takes-then a.0.1 (u64_bytes b.0.0) b.0.1 (numbered c.0.0 ++ (segment_bytes d.0.0 ++ u64_bytes f.0.0)) f.0.1 tb.0 s2 in
    let s0 = Takes-then bytes (to_le_bytes w16 a.0.0) a.0.1 (u64_bytes b.0.0 ++ (numbered c.0.0 ++ (segment_bytes d.0.0 ++ u64_bytes f.0.0))) f.0.1 ta.0 s1 in
    let o : Own = record { index = a.0.0; rows = b.0.0; metadata = c.0.0; segments = d.0.0 } in
    let kind : FitsOwn o f.0.0 = record { index = ta.1; rows = tb.1; metadata = tc.1; count = td.1.count; segments = td.1.each; children = tf.1 } in
    let made : Own × ℕ × List ℕ = (o, f.0.0, f.0.1) in
    subst (λ (y : Own × ℕ × List ℕ). Takes bytes (own_bytes y.0 y.1) y.2 × FitsOwn y.0 y.1) (ok_is made x f.2) (s0, kind)

own_again : (stop : ℕ) (o : Own) (children : ℕ) (rest : List ℕ) → FitsOwn o children → own_at stop (own_bytes o children ++ rest) ≡ Ok (o, children, rest)
unfolding own_at
own_again stop o children rest kind =
    let last : List ℕ = u64_bytes children ++ rest in
    let regrouped : own_bytes o children ++ rest ≡ to_le_bytes w16 o.index ++ (u64_bytes o.rows ++ (numbered o.metadata ++ (segment_bytes o.segments ++ last))) = grouped (to_le_bytes w16 o.index) (u64_bytes o.rows) (numbered o.metadata) (segment_bytes o.segments) (u64_bytes children) rest in
    ap (own_at stop) regrouped
    ∙ rw (
      (reads_u16 stop).again o.index (u64_bytes o.rows ++ (numbered o.metadata ++ (segment_bytes o.segments ++ last))) kind.index,
      (reads_u64 stop).again o.rows (numbered o.metadata ++ (segment_bytes o.segments ++ last)) kind.rows,
      (reads_numbered stop).again o.metadata (segment_bytes o.segments ++ last) kind.metadata,
      (reads_segments stop).again o.segments last (record { count = kind.count; each = kind.segments }),
      (reads_u64 stop).again children rest kind.children,
    ) refl
  where
    grouped : (a b c d e r : List ℕ) → (a ++ (b ++ (c ++ (d ++ e)))) ++ r ≡ a ++ (b ++ (c ++ (d ++ (e ++ r))))
    grouped a b c d e r = simp append_assoc

-- ---- what is read

-- what a reader of nodes took, where so many nodes were left and they may be so deep
pub record Taken (deep left : ℕ) (bytes : List ℕ) (x : Node × ℕ × List ℕ) : Type 0 where
  pub takes : Takes bytes (spelling x.0) x.2
  pub fits : Fits x.0
  pub depth : depth x.0 ≤ deep
  pub size : size x.0 + x.1 ≡ left

record AllTaken (deep left n : ℕ) (bytes : List ℕ) (x : Nodes × ℕ × List ℕ) : Type 0 where
  takes : Takes bytes (spellings x.0) x.2
  fits : AllFit x.0
  depths : depths x.0 ≤ deep
  sizes : sizes x.0 + x.1 ≡ left
  number : number_of x.0 ≡ n

abbrev pub TakesNodes : ℕ → ReaderOf Node → Type 0
TakesNodes deep read = (left : ℕ) (bytes : List ℕ) (x : Node × ℕ × List ℕ) → AreBytes bytes → read left bytes ≡ Ok x → Taken deep left bytes x

many_taken : (deep : ℕ) (read : ReaderOf Node) → TakesNodes deep read → (n left : ℕ) (bytes : List ℕ) (x : Nodes × ℕ × List ℕ) → AreBytes bytes → many_nodes read n left bytes ≡ Ok x → AllTaken deep left n bytes x
unfolding many_nodes
many_taken deep read reads zero left bytes x is e =
    subst (AllTaken deep left 0 bytes) (ok_is (no_nodes, left, bytes) x e) (record { takes = Takes-none bytes is; fits = tt; depths = omega arith; sizes = omega arith; number = refl })
many_taken deep read reads (suc n) left bytes x is e =
    let a = bind_ok (read left bytes) (λ one. many_nodes read n one.1 one.2 >>= λ others. Ok (first one.0 others.0, others.1, others.2)) x e in
    let b = bind_ok (many_nodes read n a.0.1 a.0.2) (λ others. Ok (first a.0.0 others.0, others.1, others.2)) x a.2 in
    let one = reads left bytes a.0 is a.1 in
    let others = many_taken deep read reads n a.0.1 a.0.2 b.0 one.takes.rest_bytes b.1 in
    let made : Nodes × ℕ × List ℕ = (first a.0.0 b.0.0, b.0.1, b.0.2) in
    subst (AllTaken deep left (suc n) bytes) (ok_is made x b.2) (record {
      takes = Takes-then bytes (spelling a.0.0) a.0.2 (spellings b.0.0) b.0.2 one.takes others.takes;
      fits = (one.fits, others.fits);
      depths = omega (arith, one.depth, others.depths);
      sizes = omega (arith, one.size, others.sizes);
      number = ap suc others.number;
    })

with_taken : (deep stop : ℕ) (read : ReaderOf Node) → TakesNodes deep read → TakesNodes (suc deep) (node_with read stop)
unfolding node_with
with_taken deep stop read reads zero bytes x is e = absurd cc
with_taken deep stop read reads (suc left) bytes x is e =
    let a = bind_ok (own_at stop bytes) (λ own. many_nodes read own.1 left own.2 >>= λ children. Ok (node own.0 children.0, children.1, children.2)) x e in
    let b = bind_ok (many_nodes read a.0.1 left a.0.2) (λ children. Ok (node a.0.0 children.0, children.1, children.2)) x a.2 in
    let one = own_takes stop bytes a.0 is a.1 in
    let others = many_taken deep read reads a.0.1 left a.0.2 b.0 one.0.rest_bytes b.1 in
    let own : Takes bytes (own_bytes a.0.0 (number_of b.0.0)) a.0.2 = subst (λ (k : ℕ). Takes bytes (own_bytes a.0.0 k) a.0.2) (sym others.number) one.0 in
    let kind : FitsOwn a.0.0 (number_of b.0.0) = subst (FitsOwn a.0.0) (sym others.number) one.1 in
    let made : Node × ℕ × List ℕ = (node a.0.0 b.0.0, b.0.1, b.0.2) in
    subst (Taken (suc deep) (suc left) bytes) (ok_is made x b.2) (record {
      takes = Takes-then bytes (own_bytes a.0.0 (number_of b.0.0)) a.0.2 (spellings b.0.0) b.0.2 own others.takes;
      fits = (kind, others.fits);
      depth = omega (arith, others.depths);
      size = omega (arith, others.sizes);
    })

pub node_taken : (deep stop : ℕ) → TakesNodes deep (node_at deep stop)
unfolding none_at
node_taken zero stop = λ left bytes x is e. absurd cc
node_taken (suc deep) stop = with_taken deep stop (node_at deep stop) (node_taken deep stop)

-- ---- what is read again

mutual
  unfolding node_with many_nodes

  pub node_again : (deep stop more : ℕ) (n : Node) (rest : List ℕ) → Fits n → depth n ≤ deep → node_at deep stop (size n + more) (spelling n ++ rest) ≡ Ok (n, more, rest)
  node_again zero stop more (node o ns) rest fits le = absurd (omega (arith, le))
  node_again (suc deep) stop more (node o ns) rest fits le =
      let s : suc (sizes ns) + more ≡ suc (sizes ns + more) = omega arith in
      let grouped : (own_bytes o (number_of ns) ++ spellings ns) ++ rest ≡ own_bytes o (number_of ns) ++ (spellings ns ++ rest) = append_assoc (own_bytes o (number_of ns)) (spellings ns) rest in
      rw (s, grouped, own_again stop o (number_of ns) (spellings ns ++ rest) fits.0, nodes_again deep stop more ns rest fits.1 (omega (arith, le))) refl

  nodes_again : (deep stop more : ℕ) (ns : Nodes) (rest : List ℕ) → AllFit ns → depths ns ≤ deep → many_nodes (node_at deep stop) (number_of ns) (sizes ns + more) (spellings ns ++ rest) ≡ Ok (ns, more, rest)
  nodes_again deep stop more no_nodes rest fits le = let z : 0 + more ≡ more = omega arith in rw z refl
  nodes_again deep stop more (first n ns) rest fits le =
      let s : (size n + sizes ns) + more ≡ size n + (sizes ns + more) = omega arith in
      let grouped : (spelling n ++ spellings ns) ++ rest ≡ spelling n ++ (spellings ns ++ rest) = append_assoc (spelling n) (spellings ns) rest in
      rw (s, grouped, node_again deep stop (sizes ns + more) n (spellings ns ++ rest) fits.0 (omega (arith, le)), nodes_again deep stop more ns rest fits.1 (omega (arith, le))) refl

-- ---- the root

pub root_takes : (deep nodes : ℕ) (bytes : List ℕ) (n : Node) → AreBytes bytes → root_at deep nodes bytes ≡ Ok n → IsWithin deep nodes n × (spelling n ≡ bytes)
unfolding root_at
root_takes deep nodes bytes n is e =
    let a = bind_ok (node_at deep (length bytes) nodes bytes) (λ root. cond (eqb (length root.2) 0) (Ok root.0) (Err (bad_grammar (length bytes - length root.2)))) n e in
    let g = guard_ended (eqb (length a.0.2) 0) (bad_grammar (length bytes - length a.0.2)) a.0.0 n a.2 in
    let t = node_taken deep (length bytes) nodes bytes a.0 is a.1 in
    let nothing : a.0.2 ≡ [] = nil_from_length a.0.2 (eqb-true _ _ g.0) in
    let whole : spelling a.0.0 ≡ bytes = sym (t.takes.parts ∙ ap (λ (r : List ℕ). spelling a.0.0 ++ r) nothing ∙ append-nil (spelling a.0.0)) in
    subst (λ (m : Node). IsWithin deep nodes m × (spelling m ≡ bytes)) g.1 (record { fits = t.fits; deep = t.depth; many = omega (arith, t.size) }, whole)

pub root_again : (deep nodes : ℕ) (bytes : List ℕ) (n : Node) → IsWithin deep nodes n → spelling n ≡ bytes → root_at deep nodes bytes ≡ Ok n
unfolding root_at
root_again deep nodes bytes n within e =
    let many : nodes ≡ size n + (nodes - size n) = omega (arith, within.many) in
    let text : bytes ≡ spelling n ++ [] = sym e ∙ sym (append-nil (spelling n)) in
    let read : node_at deep (length bytes) nodes bytes ≡ Ok (n, nodes - size n, []) = subst (λ (k : ℕ). node_at deep (length bytes) k bytes ≡ Ok (n, nodes - size n, [])) (sym many) (ap (node_at deep (length bytes) (size n + (nodes - size n))) text ∙ node_again deep (length bytes) (nodes - size n) n [] within.fits within.deep) in
    rw read refl

-- ---- what an answer says

pub is_found : {X : Type 0} (view : X → Node) (deep nodes : ℕ) (bytes : List ℕ) (r : Result X GrammarError) → AreBytes bytes → Gives view r (root_at deep nodes bytes) → IfOk r (λ x. IsWithin deep nodes (view x) × (spelling (view x) ≡ bytes))
is_found view deep nodes bytes (Ok x) is e = root_takes deep nodes bytes (view x) is e
is_found view deep nodes bytes (Err e) is h = tt
