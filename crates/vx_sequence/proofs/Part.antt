-- A part of a universe keeps the two rules.
use Rattle.std.proofs.Common.{◌≡◌, ℕ, Bool, true, false, List, [], ◌∷◌, ◌++◌, ap₂, ◌<◌, ◌≤◌, ◌+◌, suc, take, drop, get_or, append_assoc, arith, length, slice_index_or, Option, Some, None, is_some, unwrap_or, refl, sym, ap, ◌∙◌, ⊎_elim, subst}
use Rattle.std.specs.FinMap as map
use Rattle.std.specs.FinMap.{find}
use Rattle.std.proofs.lemmas.List.{take_all}
use Rattle.std.proofs.Math.Seq.{split_at}
use Rattle.std.proofs.lemmas.Grind.{common_steps}
use Rattle.std.proofs.lemmas.Bool.{true≢false}
use Rattle.vx_sequence.specs.Universe.{path_cmp, Active, IsActive, IsUniverse, released}
use Rattle.vx_sequence.specs.Part.{CanPart, left_of, parted, IsWithin}
use Rattle.vx_sequence.proofs.Rules.{removed_rules}
use Rattle.vx_sequence.proofs.Sets.{get-inserted, get-insert_other, one_path, active_remove, not_empty, none_active}
use Rattle.vx_sequence.proofs.Edits.{mark-at}
use Rattle.vx_sequence.proofs.Kept.{get_of}
use Rattle.vx_sequence.specs.declared.entries.Entry.{Entry}
use Rattle.vx_sequence.specs.Entries.{pairs, active_of, Ascends, IsAt, IsKept}

marked : (o : Option Bool) → is_some o ≡ true → (b : Bool) × (o ≡ Some b)
marked None h = absurd (true≢false (sym h))
marked (Some b) h = (b, refl)

within_active : (u v : Active) → IsWithin v u → (q : List ℕ) → IsActive v q → IsActive u q
within_active u v w q a = let m = marked (map.get v q) a in ap is_some (w q m.0 m.1)

pub within_rules : (u v : Active) → IsWithin v u → IsUniverse u → IsUniverse v
within_rules u v w r = record {
  prefix_free = λ p q a b h. r.prefix_free p q (within_active u v w p a) (within_active u v w q b) h;
  nothing_behind = λ e j q o a. r.nothing_behind e j q (w _ true o) (within_active u v w q a);
}

mark_is : (o : Option Bool) → is_some o ≡ true → o ≡ Some (unwrap_or o false)
mark_is None h = absurd (true≢false (sym h))
mark_is (Some b) h = refl

insert_within : (u v : Active) (p : List ℕ) → IsActive u p → IsWithin v u → IsWithin (map.insert v p (unwrap_or (map.get u p) false)) u
insert_within u v p a w q b h = ⊎_elim
    (λ e. subst (λ (x : List ℕ). map.get u x ≡ Some b) (sym e) (mark_is (map.get u p) a ∙ sym (get-inserted v p (unwrap_or (map.get u p) false)) ∙ ap (map.get (map.insert v p (unwrap_or (map.get u p) false))) (sym e) ∙ h))
    (λ n. w q b (sym (get-insert_other v p (unwrap_or (map.get u p) false) q n) ∙ h))
    (one_path q p)

-- what can be parted from less can be parted from more: the paths are active in each w that has all that u has
pub parted_within : (w u v : Active) (ps : List (List ℕ)) → ((q : List ℕ) → IsActive u q → IsActive w q) → CanPart u ps → IsWithin v w → IsWithin (parted w v ps) w
parted_within w u v [] f c h = h
parted_within w u v (p ∷ ps) f c h =
    parted_within w (released u p) (map.insert v p (unwrap_or (map.get w p) false)) ps (λ q a. f q (active_remove u p q a).1) c.1 (insert_within w v p (f p c.0) h)

pub left_rules : (u : Active) (ps : List (List ℕ)) → IsUniverse u → IsUniverse (left_of u ps)
left_rules u [] r = r
left_rules u (p ∷ ps) r = left_rules (released u p) ps (removed_rules u p r)

pub empty_within : (u : Active) → IsWithin map.empty u
empty_within u q b h = absurd (not_empty q (ap is_some h))

left_within : (u : Active) (ps : List (List ℕ)) (q : List ℕ) → IsActive (left_of u ps) q → IsActive u q
left_within u [] q a = a
left_within u (p ∷ ps) q a = (active_remove u p q (left_within (released u p) ps q a)).1

-- what is still there isn't in the part
gone : (u w v : Active) (ps : List (List ℕ)) (q : List ℕ) → IsActive (left_of w ps) q → map.get v q ≡ None → map.get (parted u v ps) q ≡ None
gone u w v [] q a n = n
gone u w v (p ∷ ps) q a n =
    let other = (active_remove w p q (left_within (released w p) ps q a)).0 in
    gone u (released w p) (map.insert v p (unwrap_or (map.get u p) false)) ps q a (get-insert_other v p (unwrap_or (map.get u p) false) q other ∙ n)

can_at : (u : Active) (ps : List (List ℕ)) (p : List ℕ) (qs : List (List ℕ)) → CanPart u (ps ++ (p ∷ qs)) → IsActive (left_of u ps) p
can_at u [] p qs c = c.0
can_at u (r ∷ ps) p qs c = can_at (released u r) ps p qs c.1

pub can_active : (u : Active) (ps : List (List ℕ)) (p : List ℕ) (qs : List (List ℕ)) → CanPart u (ps ++ (p ∷ qs)) → IsActive u p
can_active u ps p qs c = left_within u ps p (can_at u ps p qs c)

parted_more : (u v : Active) (ps : List (List ℕ)) (p : List ℕ) → parted u v (ps ++ p ∷ []) ≡ map.insert (parted u v ps) p (unwrap_or (map.get u p) false)
parted_more u v [] p = refl
parted_more u v (r ∷ ps) p = parted_more u (map.insert v r (unwrap_or (map.get u r) false)) ps p

pub left_more : (u : Active) (ps : List (List ℕ)) (p : List ℕ) → left_of u (ps ++ p ∷ []) ≡ released (left_of u ps) p
left_more u [] p = refl
left_more u (r ∷ ps) p = left_more (released u r) ps p

-- what the entries of a part are
pub record IsPart (u : Active) (ps : List (List ℕ)) (es : List Entry) : Type 0 where
  pub ascends : Ascends es
  pub shows : active_of es ≡ parted u map.empty ps

-- what the entries fs are, where `put` put an entry of the path q, marked b, into es
pub record IsMore (es fs : List Entry) (q : List ℕ) (b : Bool) : Type 0 where
  pub ascends : Ascends fs
  pub shows : active_of fs ≡ map.insert (active_of es) q b

part_new : (u : Active) (ps : List (List ℕ)) (p : List ℕ) (qs : List (List ℕ)) (es : List Entry) → CanPart u (ps ++ (p ∷ qs)) → IsPart u ps es
    → find path_cmp p (pairs es) ≡ None
part_new u ps p qs es c h =
    sym (get_of (pairs es) p) ∙ ap (λ v. map.get v p) h.shows ∙ gone u u map.empty ps p (can_at u ps p qs c) (none_active map.empty p (not_empty p))

part_more : (u : Active) (ps : List (List ℕ)) (p : List ℕ) (es fs : List Entry) (q : List ℕ) (b : Bool) → IsPart u ps es → IsMore es fs q b
    → q ≡ p → b ≡ unwrap_or (map.get u p) false → IsPart u (ps ++ p ∷ []) fs
part_more u ps p es fs q b h m same mark = record {
  ascends = m.ascends;
  shows = m.shows ∙ ap (λ v. map.insert v q b) h.shows ∙ ap₂ (λ r c. map.insert (parted u map.empty ps) r c) same mark ∙ sym (parted_more u map.empty ps p);
}

pub part_kept : (u : Active) (ps : List (List ℕ)) (es : List Entry) → IsUniverse u → CanPart u ps → IsPart u ps es → IsKept es
part_kept u ps es r c h = record {
  ascends = h.ascends;
  rules = subst IsUniverse (sym h.shows) (within_rules u (parted u map.empty ps) (parted_within u u map.empty ps (λ q a. a) c (empty_within u)) r);
}

pub mark_of : (es : List Entry) (u : Active) (p : List ℕ) (i : ℕ) → IsKept es → active_of es ≡ u → IsAt es p i → (d : Entry)
    → (slice_index_or es i d).is_open ≡ unwrap_or (map.get u p) false
mark_of es u p i k v at d =
    let e = sym (ap (λ w. map.get w p) v) ∙ get_of (pairs es) p ∙ mark-at es i d p at.within (at.found d) k.ascends in
    sym (ap (λ o. unwrap_or o false) e)

-- the list at the turn of place i
pub at_turn : (u : Active) (ids : List (List ℕ)) (eof : List ℕ) (i : ℕ) (d : List ℕ) → i < length ids → CanPart u (ids ++ eof ∷ [])
    → CanPart u (take i ids ++ (get_or ids i d ∷ (drop (suc i) ids ++ eof ∷ [])))
at_turn u ids eof i d l c =
    subst (CanPart u) (ap (λ (xs : List (List ℕ)). xs ++ eof ∷ []) (split_at ids i d l) ∙ append_assoc (take i ids) (get_or ids i d ∷ drop (suc i) ids) (eof ∷ [])) c

taken_more : (ids : List (List ℕ)) (i : ℕ) (d : List ℕ) → i < length ids → take (i + 1) ids ≡ take i ids ++ get_or ids i d ∷ []
taken_more ids i d l = grind (arith, common_steps)

pub turn_active : (u : Active) (ids : List (List ℕ)) (eof : List ℕ) (i : ℕ) (p : List ℕ) → i < length ids → p ≡ get_or ids i p → CanPart u (ids ++ eof ∷ []) → IsActive u p
turn_active u ids eof i p l e c = subst (IsActive u) (sym e) (can_active u (take i ids) (get_or ids i p) (drop (suc i) ids ++ eof ∷ []) (at_turn u ids eof i p l c))

pub turn_new : (u : Active) (ids : List (List ℕ)) (eof : List ℕ) (i : ℕ) (p : List ℕ) (es : List Entry) (q : List ℕ) → i < length ids → p ≡ get_or ids i p
    → CanPart u (ids ++ eof ∷ []) → IsPart u (take i ids) es → q ≡ p → find path_cmp q (pairs es) ≡ None
turn_new u ids eof i p es q l is c h same =
    ap (λ r. find path_cmp r (pairs es)) (same ∙ is) ∙ part_new u (take i ids) (get_or ids i p) (drop (suc i) ids ++ eof ∷ []) es (at_turn u ids eof i p l c) h

pub turn_kept : (u : Active) (ids : List (List ℕ)) (i : ℕ) (p : List ℕ) (es fs : List Entry) (q : List ℕ) (b : Bool) → i < length ids → p ≡ get_or ids i p
    → IsPart u (take i ids) es → IsMore es fs q b → q ≡ p → b ≡ unwrap_or (map.get u p) false → IsPart u (take (i + 1) ids) fs
turn_kept u ids i p es fs q b l is h more same mark =
    let m : b ≡ unwrap_or (map.get u (get_or ids i p)) false = mark ∙ ap (λ r. unwrap_or (map.get u r) false) is in
    subst (λ (ps : List (List ℕ)). IsPart u ps fs) (sym (taken_more ids i p l)) (part_more u (take i ids) (get_or ids i p) es fs q b h more (same ∙ is) m)

-- all ids are there
whole_part : (u : Active) (ids : List (List ℕ)) (i : ℕ) (es : List Entry) → length ids ≤ i → IsPart u (take i ids) es → IsPart u ids es
whole_part u ids i es l h = subst (λ (ps : List (List ℕ)). IsPart u ps es) (whole_taken ids i l) h
  where
    whole_taken : (ids : List (List ℕ)) (i : ℕ) → length ids ≤ i → take i ids ≡ ids
    whole_taken ids i l = grind (arith, common_steps)

pub eof_new : (u : Active) (ids : List (List ℕ)) (eof : List ℕ) (i : ℕ) (es : List Entry) (q : List ℕ) → length ids ≤ i → CanPart u (ids ++ eof ∷ [])
    → IsPart u (take i ids) es → q ≡ eof → find path_cmp q (pairs es) ≡ None
eof_new u ids eof i es q l c h same = ap (λ r. find path_cmp r (pairs es)) same ∙ part_new u ids eof [] es c (whole_part u ids i es l h)

pub all_kept : (u : Active) (ids : List (List ℕ)) (eof : List ℕ) (i : ℕ) (es fs : List Entry) (q : List ℕ) (b : Bool) → length ids ≤ i
    → IsPart u (take i ids) es → IsMore es fs q b → q ≡ eof → b ≡ unwrap_or (map.get u eof) false → IsPart u (ids ++ eof ∷ []) fs
all_kept u ids eof i es fs q b l h more same mark = part_more u ids eof es fs q b (whole_part u ids i es l h) more same mark

pub turn_left : (u w : Active) (ids : List (List ℕ)) (eof : List ℕ) (i : ℕ) (p : List ℕ) → i < length ids → p ≡ get_or ids i p → CanPart u (ids ++ eof ∷ [])
    → w ≡ left_of u (take i ids) → IsActive w p
turn_left u w ids eof i p l e c is =
    subst (λ x. IsActive x p) (sym is) (subst (IsActive (left_of u (take i ids))) (sym e) (can_at u (take i ids) (get_or ids i p) (drop (suc i) ids ++ eof ∷ []) (at_turn u ids eof i p l c)))

pub turn_gone : (u w : Active) (ids : List (List ℕ)) (i : ℕ) (p : List ℕ) → i < length ids → p ≡ get_or ids i p → w ≡ left_of u (take i ids) → released w p ≡ left_of u (take (i + 1) ids)
turn_gone u w ids i p l e is =
    ap (λ x. released x p) is ∙ ap (released (left_of u (take i ids))) e ∙ sym (left_more u (take i ids) (get_or ids i p)) ∙ ap (left_of u) (sym (taken_more ids i p l))

pub end_left : (u w : Active) (ids : List (List ℕ)) (eof : List ℕ) (i : ℕ) → length ids ≤ i → CanPart u (ids ++ eof ∷ []) → w ≡ left_of u (take i ids) → IsActive w eof
end_left u w ids eof i l c is =
    subst (λ x. IsActive x eof) (sym (is ∙ ap (left_of u) (take_all i ids l))) (can_at u ids eof [] c)

pub end_gone : (u w : Active) (ids : List (List ℕ)) (eof : List ℕ) (i : ℕ) → length ids ≤ i → w ≡ left_of u (take i ids) → released w eof ≡ left_of u (ids ++ eof ∷ [])
end_gone u w ids eof i l is = ap (λ x. released x eof) (is ∙ ap (left_of u) (take_all i ids l)) ∙ sym (left_more u ids eof)
