-- What is within a value nests less deep.
use Rattle.std.proofs.Common.{◌≡◌, ℕ, zero, suc, ◌<◌, ◌≤◌, ◌⊎◌, inl, inr, List, [], ◌∷◌, length, get_or, Option, Some, ap, arith}
use Rattle.std.proofs.Common.{Ordering, Less, Equal, Greater}
use Rattle.std.specs.Ordering.{match_ordering}
use Rattle.std.specs.Ordering.{nat_cmp}
use Rattle.std.specs.Cmp.Lexicographic.{slice_cmp}
use Rattle.serde_json.specs.Data.{Data, null, boolean, number, string, array, object, Items, no_items, item, Members, no_members, member, depth, items_depth, members_depth}
use Rattle.serde_json.specs.Find.{get, get_member, as_array}
use Rattle.serde_json.specs.View.{view, items_view}
use Rattle.serde_json.specs.declared.value.Value.{Value}
use Rattle.vx_json.specs.Values.{one_member, only_member, two_items, two}

chosen : (o : Ordering) (rest : Option Data) (d e : Data) → match_ordering o rest (Some d) rest ≡ Some e → (d ≡ e) ⊎ (rest ≡ Some e)
chosen Less rest d e is = inr is
chosen Equal rest d e is = inl (cc is)
chosen Greater rest d e is = inr is

member_depth : (k : List ℕ) (ms : Members) (e : Data) → get_member k ms ≡ Some e → depth e ≤ members_depth ms
member_depth k no_members e is = absurd (cc is)
member_depth k (member l d ms) e is = elim (chosen (slice_cmp nat_cmp k l) (get_member k ms) d e is) [
  | inl same ↦ let h : depth d ≡ depth e = ap depth same in omega arith
  | inr later ↦ omega (arith, member_depth k ms e later)
]

pub get_depth : (k : List ℕ) (d e : Data) → get k d ≡ Some e → depth e < depth d
get_depth k null e is = absurd (cc is)
get_depth k (boolean b) e is = absurd (cc is)
get_depth k (number n) e is = absurd (cc is)
get_depth k (string s) e is = absurd (cc is)
get_depth k (array ds) e is = absurd (cc is)
get_depth k (object ms) e is = omega (arith, member_depth k ms e is)

one_depth : (ms : Members) (k : List ℕ) (e : Data) → one_member ms ≡ Some (k, e) → depth e ≤ members_depth ms
one_depth no_members k e is = absurd (cc is)
one_depth (member l d no_members) k e is = let h : (l, d) ≡ (k, e) = cc is in let g : depth d ≡ depth e = ap (λ (p : List ℕ × Data). depth p.1) h in omega arith
one_depth (member l d (member m f ms)) k e is = absurd (cc is)

pub only_depth : (d : Data) (k : List ℕ) (e : Data) → only_member d ≡ Some (k, e) → depth e < depth d
unfolding only_member
only_depth null k e is = absurd (cc is)
only_depth (boolean b) k e is = absurd (cc is)
only_depth (number n) k e is = absurd (cc is)
only_depth (string s) k e is = absurd (cc is)
only_depth (array ds) k e is = absurd (cc is)
only_depth (object ms) k e is = omega (arith, one_depth ms k e is)

second_depth : (ds : Items) (a e : Data) → two_items ds ≡ Some (a, e) → depth e ≤ items_depth ds
second_depth no_items a e is = absurd (cc is)
second_depth (item d no_items) a e is = absurd (cc is)
second_depth (item d (item f no_items)) a e is = let h : (d, f) ≡ (a, e) = cc is in let g : depth f ≡ depth e = ap (λ (p : Data × Data). depth p.1) h in omega arith
second_depth (item d (item f (item h ds))) a e is = absurd (cc is)

pub two_depth : (d a e : Data) → two d ≡ Some (a, e) → depth e < depth d
unfolding two
two_depth null a e is = absurd (cc is)
two_depth (boolean b) a e is = absurd (cc is)
two_depth (number n) a e is = absurd (cc is)
two_depth (string s) a e is = absurd (cc is)
two_depth (array ds) a e is = omega (arith, second_depth ds a e is)
two_depth (object ms) a e is = absurd (cc is)

items_below : (vs : List Value) (i : ℕ) (v : Value) → i < length vs → v ≡ get_or vs i v → depth (view v) ≤ items_depth (items_view vs)
items_below [] i v lt is = absurd (omega arith)
items_below (u ∷ vs) zero v lt is = let h : depth (view v) ≡ depth (view u) = ap (λ x. depth (view x)) is in omega arith
items_below (u ∷ vs) (suc i) v lt is = omega (arith, items_below vs i v (omega arith) is)

array_depth : (d : Data) (ds : Items) → as_array d ≡ Some ds → items_depth ds < depth d
array_depth null ds is = absurd (cc is)
array_depth (boolean b) ds is = absurd (cc is)
array_depth (number n) ds is = absurd (cc is)
array_depth (string s) ds is = absurd (cc is)
array_depth (array es) ds is = let h : es ≡ ds = cc is in let g : items_depth es ≡ items_depth ds = ap items_depth h in omega arith
array_depth (object ms) ds is = absurd (cc is)

pub item_depth : (d : Data) (vs : List Value) (i : ℕ) (v : Value) → as_array d ≡ Some (items_view vs) → i < length vs → v ≡ get_or vs i v → depth (view v) < depth d
item_depth d vs i v is lt at = omega (arith, array_depth d (items_view vs) is, items_below vs i v lt at)

pub ruleset depth_rules = (get_depth, only_depth, two_depth)
