-- A node that is read within limits is the node that stands at its place.
use Rattle.std.proofs.Common.{◌≡◌, ℕ, zero, suc, ◌+◌, ◌-◌, ◌<◌, ◌≤◌, true, false, List, [], ◌∷◌, ◌++◌, length, get_or, drop, Option, Some, None, Result, Ok, Err, refl, sym, ap, subst, ◌∙◌, arith, IsTrue}
use Rattle.std.specs.Prelude.{◌==◌}
use Rattle.std.specs.Int.{w16, w64, to_le_bytes}
use Rattle.std.proofs.lemmas.List.{length-append, length-drop, drop-drop, drop_at}
use Rattle.vx_model.specs.CellData.{u64_bytes}
use Rattle.vx_byte_reader.specs.Fields as fields
use Rattle.vx_byte_reader.specs.Places.{◌>>=◌}
use Rattle.vx_byte_reader.proofs.FieldLaws.{IsBytes-drop, halves, both_true, some_is}
use Rattle.vx_byte_reader.proofs.PlaceLaws.{bind_ok, ok_is, found}
use Rattle.vx_layout_bytes.specs.declared.error.GrammarError.{GrammarError}
use Rattle.vx_layout_bytes.specs.Node.{Own, Node, Nodes, node, no_nodes, first, number_of, own_of}
use Rattle.vx_layout_bytes.specs.Values.{AreBytes, depth, depths, size, sizes}
use Rattle.vx_layout_bytes.specs.Spelled.{numbered, segment_bytes, own_bytes, spelling, spellings}
use Rattle.vx_layout_bytes.specs.Reading.{Fault, bad_grammar, number_at, numbered_at, segments_at, own_at, many_nodes, none_at, node_with, node_at, root_at}
use Rattle.vx_layout_bytes.specs.There.{read_there, is_read, is_node_at, are_nodes_at, node_there, node_read, behind, only_value}
use Rattle.vx_layout_bytes.specs.Views.{Fails}
use Rattle.vx_layout_bytes.proofs.Loops.{fails_with}
use Rattle.vx_layout_bytes.proofs.NodeLaws.{Taken, own_takes, node_taken, node_again}
use Rattle.vx_layout_bytes.proofs.Skips.{behind_ok, fails_behind}

-- ---- bytes are no fewer than nodes

own_some : (o : Own) (k : ℕ) → 1 ≤ length (own_bytes o k)
own_some o k =
    let two : length (to_le_bytes w16 o.index) ≡ 2 = refl in
    omega (arith, two, length-append (to_le_bytes w16 o.index) (u64_bytes o.rows ++ (numbered o.metadata ++ (segment_bytes o.segments ++ u64_bytes k))))

mutual
  size_spelled : (n : Node) → size n ≤ length (spelling n)
  size_spelled (node o ns) = omega (arith, own_some o (number_of ns), sizes_spelled ns, length-append (own_bytes o (number_of ns)) (spellings ns))

  sizes_spelled : (ns : Nodes) → sizes ns ≤ length (spellings ns)
  sizes_spelled no_nodes = omega arith
  sizes_spelled (first n ns) = omega (arith, size_spelled n, sizes_spelled ns, length-append (spelling n) (spellings ns))

mutual
  depth_size : (n : Node) → depth n ≤ size n
  depth_size (node o ns) = omega (arith, depths_sizes ns)

  depths_sizes : (ns : Nodes) → depths ns ≤ sizes ns
  depths_sizes no_nodes = omega arith
  depths_sizes (first n ns) = omega (arith, depth_size n, depths_sizes ns)

-- ---- other limits

-- what is read within limits is read by a reader that so many bytes limit
pub read_more : (deep stop left : ℕ) (bytes : List ℕ) (x : Node × ℕ × List ℕ) → AreBytes bytes → node_at deep stop left bytes ≡ Ok x
    → (limit close : ℕ) → length bytes ≤ limit → (more : ℕ) × (node_at limit close limit bytes ≡ Ok (x.0, more, x.2))
read_more deep stop left bytes x is e limit close long =
    let t : Taken deep left bytes x = node_taken deep stop left bytes x is e in
    let parts : length bytes ≡ length (spelling x.0) + length x.2 = ap length t.takes.parts ∙ length-append (spelling x.0) x.2 in
    let few : size x.0 ≤ limit = omega (arith, size_spelled x.0, parts, long) in
    let shallow : depth x.0 ≤ limit = omega (arith, depth_size x.0, few) in
    let sum : limit ≡ size x.0 + (limit - size x.0) = omega (arith, few) in
    let again : node_at limit close (size x.0 + (limit - size x.0)) (spelling x.0 ++ x.2) ≡ Ok (x.0, limit - size x.0, x.2) = node_again limit close (limit - size x.0) x.0 x.2 t.fits shallow in
    (limit - size x.0, ap (node_at limit close limit) t.takes.parts ∙ subst (λ (k : ℕ). node_at limit close k (spelling x.0 ++ x.2) ≡ Ok (x.0, limit - size x.0, x.2)) (sym sum) again)

-- ---- at a place

read_ok : {A : Type 0} (r : Result A Fault) → IsTrue (is_read r) → (x : A) × (r ≡ Ok x)
read_ok (Ok x) h = (x, refl)
read_ok (Err f) h = absurd cc

-- what is read of a node: its own fields, and its children
pub record Standing (bytes : List ℕ) (place : ℕ) : Type 0 where
  pub own : Own
  pub count : ℕ
  pub rest : List ℕ
  pub nodes : Nodes
  pub left : ℕ
  pub after : List ℕ
  pub own_read : own_at (length bytes) (drop place bytes) ≡ Ok (own, count, rest)
  pub nodes_read : many_nodes (node_at (length bytes - 1) (length bytes)) count (length bytes - 1) rest ≡ Ok (nodes, left, after)
  pub is : node_there bytes place ≡ node own nodes

parts_read : (d stop l : ℕ) (bytes : List ℕ) (x : Node × ℕ × List ℕ) → node_at d stop l bytes ≡ Ok x
    → (a : Own × ℕ × List ℕ) × (b : Nodes × ℕ × List ℕ) × (own_at stop bytes ≡ Ok a) × (many_nodes (node_at (d - 1) stop) a.1 (l - 1) a.2 ≡ Ok b) × (x.0 ≡ node a.0 b.0)
unfolding none_at node_with
parts_read zero stop l bytes x e = absurd cc
parts_read (suc d) stop zero bytes x e = absurd cc
parts_read (suc d) stop (suc l) bytes x e =
    let a = bind_ok (own_at stop bytes) (λ own. many_nodes (node_at d stop) own.1 l own.2 >>= λ children. Ok (node own.0 children.0, children.1, children.2)) x e in
    let b = bind_ok (many_nodes (node_at d stop) a.0.1 l a.0.2) (λ children. Ok (node a.0.0 children.0, children.1, children.2)) x a.2 in
    let dd : suc d - 1 ≡ d = omega arith in
    let ll : suc l - 1 ≡ l = omega arith in
    let made : Node × ℕ × List ℕ = (node a.0.0 b.0.0, b.0.1, b.0.2) in
    let j : many_nodes (node_at (suc d - 1) stop) a.0.1 (suc l - 1) a.0.2 ≡ Ok b.0 =
    subst (λ (k : ℕ). many_nodes (node_at (suc d - 1) stop) a.0.1 k a.0.2 ≡ Ok b.0) (sym ll) (subst (λ (k : ℕ). many_nodes (node_at k stop) a.0.1 l a.0.2 ≡ Ok b.0) (sym dd) b.1) in
    (a.0, b.0, a.1, j, ap (λ (y : Node × ℕ × List ℕ). y.0) (sym (ok_is made x b.2)))

pub standing : (bytes : List ℕ) (place : ℕ) → IsTrue (is_node_at bytes place) → Standing bytes place
unfolding is_node_at node_there
standing bytes place h =
    let x = read_ok (read_there bytes place) h in
    let p = parts_read (length bytes) (length bytes) (length bytes) (drop place bytes) x.0 x.1 in
    record {
      own = p.0.0;
      count = p.0.1;
      rest = p.0.2;
      nodes = p.1.0;
      left = p.1.1;
      after = p.1.2;
      own_read = p.2;
      nodes_read = p.3;
      is = ap node_read x.1 ∙ p.4;
    }

pub some_bytes : (bytes : List ℕ) (place : ℕ) → IsTrue (is_node_at bytes place) → 1 ≤ length bytes
unfolding is_node_at none_at
some_bytes [] place h = absurd cc
some_bytes (b ∷ bytes) place h = omega arith

-- ---- a place is within the bytes

some_size : (n : Node) → 1 ≤ size n
some_size (node o ns) = omega arith

no_bytes : AreBytes []
no_bytes i = omega arith

none_read : (d stop l : ℕ) → IsTrue (is_read (node_at d stop l [])) → ⊥
none_read d stop l h =
    let x = read_ok (node_at d stop l []) h in
    let t : Taken d l [] x.0 = node_taken d stop l [] x.0 no_bytes x.1 in
    omega (arith, ap length t.takes.parts, length-append (spelling x.0.0) x.0.2, size_spelled x.0.0, some_size x.0.0)

read_within : (d stop l : ℕ) (bytes : List ℕ) (place : ℕ) → IsTrue (is_read (node_at d stop l (drop place bytes))) → place ≤ length bytes
read_within d stop l bytes zero h = omega arith
read_within d stop l [] (suc place) h = absurd (none_read d stop l h)
read_within d stop l (b ∷ bytes) (suc place) h = omega (arith, read_within d stop l bytes place h)

pub within : (bytes : List ℕ) (place : ℕ) → IsTrue (is_node_at bytes place) → place ≤ length bytes
unfolding is_node_at
within bytes place h = read_within (length bytes) (length bytes) (length bytes) bytes place h

-- ---- the first fields

record Head (bytes : List ℕ) (o : Own) : Type 0 where
  after_index : List ℕ
  after_rows : List ℕ
  index : fields.number_at w16 bytes ≡ Some (o.index, after_index)
  rows : fields.number_at w64 after_index ≡ Some (o.rows, after_rows)

own_head : (stop : ℕ) (bytes : List ℕ) (x : Own × ℕ × List ℕ) → own_at stop bytes ≡ Ok x → Head bytes x.0
unfolding own_at
own_head stop bytes x e =
    let a = bind_ok (number_at w16 stop bytes) (λ index. number_at w64 stop index.1 >>= λ rows. numbered_at stop rows.1 >>= λ metadata. segments_at stop metadata.1 >>= λ segments. number_at w64 stop segments.1 >>= λ children. Ok (record { index = index.0; rows = rows.0; metadata = metadata.0; segments = segments.0 }, children.0, children.1)) x e in
    let b = bind_ok (number_at w64 stop a.0.1) (λ rows. numbered_at stop rows.1 >>= λ metadata. segments_at stop metadata.1 >>= λ segments. number_at w64 stop segments.1 >>= λ children. Ok (record { index = a.0.0; rows = rows.0; metadata = metadata.0; segments = segments.0 }, children.0, children.1)) x a.2 in
    let c = bind_ok (numbered_at stop b.0.1) (λ metadata. segments_at stop metadata.1 >>= λ segments. number_at w64 stop segments.1 >>= λ children. Ok (record { index = a.0.0; rows = b.0.0; metadata = metadata.0; segments = segments.0 }, children.0, children.1)) x b.2 in
    let d = bind_ok (segments_at stop c.0.1) (λ segments. number_at w64 stop segments.1 >>= λ children. Ok (record { index = a.0.0; rows = b.0.0; metadata = c.0.0; segments = segments.0 }, children.0, children.1)) x c.2 in
    let f = bind_ok (number_at w64 stop d.0.1) (λ children. Ok (record { index = a.0.0; rows = b.0.0; metadata = c.0.0; segments = d.0.0 }, children.0, children.1)) x d.2 in
    let o : Own = record { index = a.0.0; rows = b.0.0; metadata = c.0.0; segments = d.0.0 } in
    let made : Own × ℕ × List ℕ = (o, f.0.0, f.0.1) in
    let seen : Head bytes o = record {
      after_index = a.0.1;
      after_rows = b.0.1;
      index = found (bad_grammar (stop - length bytes)) (fields.number_at w16 bytes) a.0 a.1;
      rows = found (bad_grammar (stop - length a.0.1)) (fields.number_at w64 a.0.1) b.0 b.1;
    } in
    subst (λ (y : Own × ℕ × List ℕ). Head bytes y.0) (ok_is made x f.2) seen

abbrev given : ℕ × List ℕ → Option (ℕ × List ℕ)
given x = Some x

abbrev none_of : Option (ℕ × List ℕ)
none_of = None

-- what the reader of a number gave, where a node stands there
given_index : (bytes : List ℕ) (place : ℕ) → IsTrue (is_node_at bytes place)
    → (rest : List ℕ) × (fields.number_at w16 (drop place bytes) ≡ Some ((own_of (node_there bytes place)).index, rest)) × (after : List ℕ) × (fields.number_at w64 rest ≡ Some ((own_of (node_there bytes place)).rows, after))
given_index bytes place h =
    let s = standing bytes place h in
    let f = own_head (length bytes) (drop place bytes) (s.own, s.count, s.rest) s.own_read in
    let o : s.own ≡ own_of (node_there bytes place) = sym (ap own_of s.is) in
    (f.after_index, subst (λ (o : Own). fields.number_at w16 (drop place bytes) ≡ Some (o.index, f.after_index)) o f.index, f.after_rows, subst (λ (o : Own). fields.number_at w64 f.after_index ≡ Some (o.rows, f.after_rows)) o f.rows)

pub index_found : (bytes rest : List ℕ) (place index : ℕ) (after : List ℕ) → IsTrue (is_node_at bytes place) → rest ≡ drop place bytes → Some (index, after) ≡ fields.number_at w16 rest → index ≡ (own_of (node_there bytes place)).index
index_found bytes rest place index after h same e =
    let g = given_index bytes place h in
    let mine : ℕ × List ℕ = (index, after) in
    let yours : ℕ × List ℕ = ((own_of (node_there bytes place)).index, g.0) in
    ap (λ (y : ℕ × List ℕ). y.0) (some_is mine yours (e ∙ ap (fields.number_at w16) same ∙ g.1))

pub rows_found : (bytes rest : List ℕ) (place index : ℕ) (after : List ℕ) (rows : ℕ) (more : List ℕ) → IsTrue (is_node_at bytes place) → rest ≡ drop place bytes → Some (index, after) ≡ fields.number_at w16 rest → Some (rows, more) ≡ fields.number_at w64 after → rows ≡ (own_of (node_there bytes place)).rows
rows_found bytes rest place index after rows more h same e f =
    let g = given_index bytes place h in
    let mine : ℕ × List ℕ = (index, after) in
    let yours : ℕ × List ℕ = ((own_of (node_there bytes place)).index, g.0) in
    let behind_index : after ≡ g.0 = ap (λ (y : ℕ × List ℕ). y.1) (some_is mine yours (e ∙ ap (fields.number_at w16) same ∙ g.1)) in
    let our_rows : ℕ × List ℕ = (rows, more) in
    let its_rows : ℕ × List ℕ = ((own_of (node_there bytes place)).rows, g.2) in
    ap (λ (y : ℕ × List ℕ). y.0) (some_is our_rows its_rows (f ∙ ap (fields.number_at w64) behind_index ∙ g.3))

-- the readers give something there
no_index : (bytes rest : List ℕ) (place : ℕ) → IsTrue (is_node_at bytes place) → rest ≡ drop place bytes → None ≡ fields.number_at w16 rest → ⊥
no_index bytes rest place h same e = let g = given_index bytes place h in let no : none_of ≡ given ((own_of (node_there bytes place)).index, g.0) = e ∙ ap (fields.number_at w16) same ∙ g.1 in absurd cc

no_rows : (bytes rest : List ℕ) (place index : ℕ) (after : List ℕ) → IsTrue (is_node_at bytes place) → rest ≡ drop place bytes → Some (index, after) ≡ fields.number_at w16 rest → None ≡ fields.number_at w64 after → ⊥
no_rows bytes rest place index after h same e f =
    let g = given_index bytes place h in
    let mine : ℕ × List ℕ = (index, after) in
    let yours : ℕ × List ℕ = ((own_of (node_there bytes place)).index, g.0) in
    let behind_index : after ≡ g.0 = ap (λ (y : ℕ × List ℕ). y.1) (some_is mine yours (e ∙ ap (fields.number_at w16) same ∙ g.1)) in
    let no : none_of ≡ given ((own_of (node_there bytes place)).rows, g.2) = f ∙ ap (fields.number_at w64) behind_index ∙ g.3 in
    absurd cc

pub index_there : (bytes rest : List ℕ) (place : ℕ) → IsTrue (is_node_at bytes place) → rest ≡ drop place bytes → None ≡ fields.number_at w16 rest → 0 ≡ (own_of (node_there bytes place)).index
index_there bytes rest place h same e = absurd (no_index bytes rest place h same e)

pub index_before_rows : (bytes rest : List ℕ) (place : ℕ) → IsTrue (is_node_at bytes place) → rest ≡ drop place bytes → None ≡ fields.number_at w16 rest → 0 ≡ (own_of (node_there bytes place)).rows
index_before_rows bytes rest place h same e = absurd (no_index bytes rest place h same e)

pub rows_there : (bytes rest : List ℕ) (place index : ℕ) (after : List ℕ) → IsTrue (is_node_at bytes place) → rest ≡ drop place bytes → Some (index, after) ≡ fields.number_at w16 rest → None ≡ fields.number_at w64 after → 0 ≡ (own_of (node_there bytes place)).rows
rows_there bytes rest place index after h same e f = absurd (no_rows bytes rest place index after h same e f)

pub ruleset head_rules = (index_found, rows_found, index_there, index_before_rows, rows_there)

-- what is behind a part is the end of the bytes
behind_part : (bytes s rest : List ℕ) (place : ℕ) → place ≤ length bytes → drop place bytes ≡ s ++ rest → drop (length bytes - length rest) bytes ≡ rest
behind_part bytes s rest place le parts =
    let sum : length (drop place bytes) ≡ length s + length rest = ap length parts ∙ length-append s rest in
    let k : length bytes - length rest ≡ place + length s = omega (arith, sum, le, length-drop place bytes) in
    ap (λ (i : ℕ). drop i bytes) k ∙ sym (drop-drop (length s) place bytes) ∙ ap (drop (length s)) parts ∙ drop_at s rest (length s) refl

-- ---- a node that is opened

pub own_end : (bytes copy : List ℕ) (place stop : ℕ) (o : Own) (count : ℕ) (rest : List ℕ) → AreBytes bytes → IsTrue (is_node_at bytes place) → copy ≡ drop place bytes → own_at stop copy ≡ Ok (o, count, rest)
    → drop (length bytes - length rest) bytes ≡ rest
own_end bytes copy place stop o count rest is h same e =
    let octets : AreBytes copy = subst AreBytes (sym same) (IsBytes-drop place bytes is) in
    let t = own_takes stop copy (o, count, rest) octets e in
    behind_part bytes (own_bytes o count) rest place (within bytes place h) (sym same ∙ t.0.parts)

pub opened_is : (bytes copy : List ℕ) (place stop : ℕ) (o : Own) (count : ℕ) (rest : List ℕ) (ns : Nodes) → IsTrue (is_node_at bytes place) → stop ≡ length bytes → copy ≡ drop place bytes → own_at stop copy ≡ Ok (o, count, rest)
    → only_value (many_nodes (node_at (stop - 1) stop) count (stop - 1) rest) ≡ Ok ns → node o ns ≡ node_there bytes place
opened_is bytes copy place stop o count rest ns h whole same e f =
    let s = standing bytes place h in
    let e1 : own_at (length bytes) (drop place bytes) ≡ Ok (o, count, rest) = subst (λ (b : List ℕ). own_at (length bytes) b ≡ Ok (o, count, rest)) same (subst (λ (k : ℕ). own_at k copy ≡ Ok (o, count, rest)) whole e) in
    let mine : Own × ℕ × List ℕ = (s.own, s.count, s.rest) in
    let yours : Own × ℕ × List ℕ = (o, count, rest) in
    let x : mine ≡ yours = ok_is mine yours (sym s.own_read ∙ e1) in
    let f1 : only_value (many_nodes (node_at (length bytes - 1) (length bytes)) count (length bytes - 1) rest) ≡ Ok ns = subst (λ (k : ℕ). only_value (many_nodes (node_at (k - 1) k) count (k - 1) rest) ≡ Ok ns) whole f in
    let r1 : many_nodes (node_at (length bytes - 1) (length bytes)) count (length bytes - 1) rest ≡ Ok (s.nodes, s.left, s.after) =
    subst (λ (y : Own × ℕ × List ℕ). many_nodes (node_at (length bytes - 1) (length bytes)) y.1 (length bytes - 1) y.2 ≡ Ok (s.nodes, s.left, s.after)) x s.nodes_read in
    let n : s.nodes ≡ ns = ok_is s.nodes ns (sym (ap only_value r1) ∙ f1) in
    let o1 : s.own ≡ o = ap (λ (y : Own × ℕ × List ℕ). y.0) x in
    sym (s.is ∙ ap (λ (m : Nodes). node s.own m) n ∙ ap (λ (m : Own). node m ns) o1)

-- ---- several places

pub are_push : (bytes ps : List ℕ) (p : ℕ) → IsTrue (are_nodes_at bytes ps) → IsTrue (is_node_at bytes p) → IsTrue (are_nodes_at bytes (ps ++ p ∷ []))
are_push bytes [] p hs h = both_true (is_node_at bytes p) true h refl
are_push bytes (q ∷ ps) p hs h =
    let two = halves (is_node_at bytes q) (are_nodes_at bytes ps) hs in
    both_true (is_node_at bytes q) (are_nodes_at bytes (ps ++ p ∷ [])) two.0 (are_push bytes ps p two.1 h)

pub are_at : (bytes ps : List ℕ) (i p : ℕ) → IsTrue (are_nodes_at bytes ps) → i < length ps → p ≡ get_or ps i p → IsTrue (is_node_at bytes p)
are_at bytes [] i p hs lt is = absurd (omega (arith, lt))
are_at bytes (q ∷ ps) zero p hs lt is = subst (λ (k : ℕ). IsTrue (is_node_at bytes k)) (sym is) (halves (is_node_at bytes q) (are_nodes_at bytes ps) hs).0
are_at bytes (q ∷ ps) (suc i) p hs lt is = are_at bytes ps i p (halves (is_node_at bytes q) (are_nodes_at bytes ps) hs).1 (omega (arith, lt)) is

-- whatever stands for none
at_zero : (ps : List ℕ) (i p : ℕ) → i < length ps → p ≡ get_or ps i p → p ≡ get_or ps i 0
at_zero [] i p lt is = absurd (omega (arith, lt))
at_zero (q ∷ ps) zero p lt is = is
at_zero (q ∷ ps) (suc i) p lt is = at_zero ps i p (omega (arith, lt)) is

pub node_at_place : (bytes ps : List ℕ) (i p : ℕ) → i < length ps → p ≡ get_or ps i p → node_there bytes p ≡ node_there bytes (get_or ps i 0)
node_at_place bytes ps i p lt is = ap (node_there bytes) (at_zero ps i p lt is)

pub index_at_place : (bytes ps : List ℕ) (i p n : ℕ) → i < length ps → p ≡ get_or ps i p → n ≡ (own_of (node_there bytes p)).index → n ≡ (own_of (node_there bytes (get_or ps i 0))).index
index_at_place bytes ps i p n lt is e = e ∙ ap (λ (m : Node). (own_of m).index) (node_at_place bytes ps i p lt is)

pub rows_at_place : (bytes ps : List ℕ) (i p n : ℕ) → i < length ps → p ≡ get_or ps i p → n ≡ (own_of (node_there bytes p)).rows → n ≡ (own_of (node_there bytes (get_or ps i 0))).rows
rows_at_place bytes ps i p n lt is e = e ∙ ap (λ (m : Node). (own_of m).rows) (node_at_place bytes ps i p lt is)

pub ruleset at_place = (are_at, node_at_place, index_at_place, rows_at_place)

-- ---- behind a node

-- a node that was walked behind stands where the walk began
pub record Behind (bytes rest : List ℕ) (stop deep left fewer : ℕ) (after : List ℕ) : Type 0 where
  pub reads : node_at deep stop left rest ≡ Ok (node_there bytes (stop - length rest), fewer, after)
  pub there : IsTrue (is_node_at bytes (stop - length rest))
  pub ends : drop (length bytes - length after) bytes ≡ after

walked_behind : (bytes rest : List ℕ) (deep left fewer : ℕ) (after : List ℕ) → AreBytes bytes → drop (length bytes - length rest) bytes ≡ rest
    → behind (node_at deep (length bytes) left rest) ≡ Ok (fewer, after) → Behind bytes rest (length bytes) deep left fewer after
unfolding is_node_at node_there
walked_behind bytes rest deep left fewer after is ends e =
    let x = behind_ok (node_at deep (length bytes) left rest) fewer after e in
    let octets : AreBytes rest = subst AreBytes ends (IsBytes-drop (length bytes - length rest) bytes is) in
    let few : length rest ≤ length bytes = omega (arith, ap length ends, length-drop (length bytes - length rest) bytes) in
    let t : Taken deep left rest (x.0, fewer, after) = node_taken deep (length bytes) left rest (x.0, fewer, after) octets x.1 in
    let m = read_more deep (length bytes) left rest (x.0, fewer, after) octets x.1 (length bytes) (length bytes) few in
    let again : read_there bytes (length bytes - length rest) ≡ Ok (x.0, m.0, after) = ap (node_at (length bytes) (length bytes) (length bytes)) ends ∙ m.1 in
    let same : node_there bytes (length bytes - length rest) ≡ x.0 = ap node_read again in
    record {
      reads = x.1 ∙ ap (λ (n : Node). Ok (n, fewer, after)) (sym same);
      there = rw again refl;
      ends = behind_part bytes (spelling x.0) after (length bytes - length rest) (omega arith) (ends ∙ t.takes.parts);
    }

pub went_behind : (bytes rest : List ℕ) (stop deep left fewer : ℕ) (after : List ℕ) → stop ≡ length bytes → AreBytes bytes → drop (length bytes - length rest) bytes ≡ rest
    → behind (node_at deep stop left rest) ≡ Ok (fewer, after) → Behind bytes rest stop deep left fewer after
went_behind bytes rest stop deep left fewer after whole is ends =
    subst (λ (k : ℕ). behind (node_at deep k left rest) ≡ Ok (fewer, after) → Behind bytes rest k deep left fewer after) (sym whole) (walked_behind bytes rest deep left fewer after is ends)

-- ---- the root

root_stops : (deep nodes : ℕ) (bytes : List ℕ) (f : Fault) → node_at deep (length bytes) nodes bytes ≡ Err f → root_at deep nodes bytes ≡ Err f
unfolding root_at
root_stops deep nodes bytes f h = rw h refl

pub root_fails : (e : GrammarError) (deep stop nodes : ℕ) (bytes copy : List ℕ) → stop ≡ length bytes → copy ≡ bytes → Fails e (behind (node_at deep stop nodes copy)) → Fails e (root_at deep nodes bytes)
root_fails e deep stop nodes bytes copy whole same h =
    fails_with e (node_at deep (length bytes) nodes bytes) (root_at deep nodes bytes) (root_stops deep nodes bytes) (fails_behind e (node_at deep (length bytes) nodes bytes) (subst (λ (b : List ℕ). Fails e (behind (node_at deep (length bytes) nodes b))) same (subst (λ (k : ℕ). Fails e (behind (node_at deep k nodes copy))) whole h)))

-- the node that was walked behind
root_read : (deep stop nodes left : ℕ) (bytes copy rest : List ℕ) → stop ≡ length bytes → copy ≡ bytes → behind (node_at deep stop nodes copy) ≡ Ok (left, rest) → (n : Node) × (node_at deep (length bytes) nodes bytes ≡ Ok (n, left, rest))
root_read deep stop nodes left bytes copy rest whole same e =
    let h : behind (node_at deep (length bytes) nodes bytes) ≡ Ok (left, rest) = subst (λ (b : List ℕ). behind (node_at deep (length bytes) nodes b) ≡ Ok (left, rest)) same (subst (λ (k : ℕ). behind (node_at deep k nodes copy) ≡ Ok (left, rest)) whole e) in
    behind_ok (node_at deep (length bytes) nodes bytes) left rest h

pub root_left : (deep stop nodes left : ℕ) (bytes copy rest : List ℕ) → stop ≡ length bytes → copy ≡ bytes → behind (node_at deep stop nodes copy) ≡ Ok (left, rest) → (length rest == 0) ≡ false → root_at deep nodes bytes ≡ Err (bad_grammar (stop - length rest))
unfolding root_at
root_left deep stop nodes left bytes copy rest whole same e more =
    let x = root_read deep stop nodes left bytes copy rest whole same e in
    rw (x.1, more, whole) refl

root_all : (deep stop nodes left : ℕ) (bytes copy rest : List ℕ) → stop ≡ length bytes → AreBytes bytes → copy ≡ bytes → behind (node_at deep stop nodes copy) ≡ Ok (left, rest) → (length rest == 0) ≡ true
    → (root_at deep nodes bytes ≡ Ok (node_there bytes 0)) × IsTrue (is_node_at bytes 0)
unfolding root_at is_node_at node_there
root_all deep stop nodes left bytes copy rest whole is same e none =
    let x = root_read deep stop nodes left bytes copy rest whole same e in
    let m = read_more deep (length bytes) nodes bytes (x.0, left, rest) is x.1 (length bytes) (length bytes) (omega arith) in
    (rw (x.1, none, m.1) refl, rw m.1 refl)

pub root_found : (deep stop nodes left : ℕ) (bytes copy rest : List ℕ) → stop ≡ length bytes → AreBytes bytes → copy ≡ bytes → behind (node_at deep stop nodes copy) ≡ Ok (left, rest) → (length rest == 0) ≡ true
    → root_at deep nodes bytes ≡ Ok (node_there bytes 0)
root_found deep stop nodes left bytes copy rest whole is same e none = (root_all deep stop nodes left bytes copy rest whole is same e none).0

pub root_there : (deep stop nodes left : ℕ) (bytes copy rest : List ℕ) → stop ≡ length bytes → AreBytes bytes → copy ≡ bytes → behind (node_at deep stop nodes copy) ≡ Ok (left, rest) → (length rest == 0) ≡ true → IsTrue (is_node_at bytes 0)
root_there deep stop nodes left bytes copy rest whole is same e none = (root_all deep stop nodes left bytes copy rest whole is same e none).1

pub ruleset root_rules = (root_fails, root_left, root_found, root_there)
