-- A writer takes the place of the one of its name.
use Rattle.std.proofs.Common.{◌≡◌, ℕ, suc, Bool, true, false, List, [], ◌∷◌, ◌++◌, get_or, ◌⊎◌, inl, inr, refl, sym, ◌∙◌, subst, Option, Some, None}
use Rattle.std.specs.Prelude.{option_map, bytes_eq, slice_set}
use Rattle.std.specs.Cmp.Lexicographic.{bytes_decides}
use Rattle.vx_strategy_spec.specs.Walk.{same_names}
use Rattle.vx_strategy_spec.specs.Dispatch.{override}
use Rattle.vx_strategy.proofs.PlaceSteps.{later, place_below}
use Rattle.vx_strategy.specs.AdmittedStrategy.{AdmittedStrategy}
use Rattle.vx_strategy.specs.FieldWays.{field_ways, with_writer, place_of}
use Rattle.vx_strategy.specs.declared.field_writer.FieldWriter.{FieldWriter}

same_bool : (a b : Bool) → (a ≡ true → b ≡ true) → (b ≡ true → a ≡ true) → a ≡ b
same_bool true b f g = sym (f refl)
same_bool false true f g = g refl
same_bool false false f g = refl

pub bytes_eq_sym : (a b : List ℕ) → bytes_eq a b ≡ bytes_eq b a
bytes_eq_sym a b = same_bool (bytes_eq a b) (bytes_eq b a) (λ e. (bytes_decides b a).1 (sym ((bytes_decides a b).0 e))) (λ e. (bytes_decides a b).1 (sym ((bytes_decides b a).0 e)))

pub either : (b : Bool) → (b ≡ true) ⊎ (b ≡ false)
either true = inl refl
either false = inr refl

same_one : (a b : List ℕ) (t : Bool) → bytes_eq a b ≡ t → same_names (a ∷ []) (b ∷ []) ≡ t
same_one a b true e = rw e refl
same_one a b false e = rw e refl

-- a name that none has stands behind
pub none_later : (o : Option ℕ) → option_map suc o ≡ None → o ≡ None
none_later None is = refl
none_later (Some j) is = absurd (cc is)

pub put_behind : (name : List ℕ) (w : AdmittedStrategy) (ws : List FieldWriter) → place_of name ws ≡ None
    → field_ways (ws ++ (record { name = name; writer = w } ∷ [])) ≡ with_writer (field_ways ws) name w.item
put_behind name w [] is = refl
put_behind name w (y ∷ ys) is = elim (either (bytes_eq y.name name)) [
  | inl t ↦ let h : place_of name (y ∷ ys) ≡ Some 0 = rw t refl in absurd (cc (is, h))
  | inr t ↦
      let h : place_of name (y ∷ ys) ≡ option_map suc (place_of name ys) = rw t refl in
      rw (same_one y.name name false t, put_behind name w ys (none_later (place_of name ys) (sym h ∙ is))) refl
]

-- the writer in place k is exchanged
Puts : List ℕ → AdmittedStrategy → List FieldWriter → FieldWriter → ℕ → Type 0
Puts name w ws x k = x ≡ get_or ws k x → field_ways (slice_set ws k (record { name = x.name; writer = w })) ≡ with_writer (field_ways ws) name w.item

put_here : (name : List ℕ) (w : AdmittedStrategy) (y x : FieldWriter) (ys : List FieldWriter) → bytes_eq y.name name ≡ true → Puts name w (y ∷ ys) x 0
unfolding Puts
put_here name w y x ys t at = rw (at, same_one y.name name true t) refl

put_later : (name : List ℕ) (w : AdmittedStrategy) (y x : FieldWriter) (ys : List FieldWriter) (j : ℕ) → bytes_eq y.name name ≡ false → Puts name w ys x j → Puts name w (y ∷ ys) x (suc j)
unfolding Puts
put_later name w y x ys j t rest at = rw (same_one y.name name false t, ← rest at) refl

puts : (name : List ℕ) (w : AdmittedStrategy) (ws : List FieldWriter) (k : ℕ) (x : FieldWriter) → place_of name ws ≡ Some k → Puts name w ws x k
puts name w [] k x is = absurd (cc is)
puts name w (y ∷ ys) k x is = elim (either (bytes_eq y.name name)) [
  | inl t ↦ let h : place_of name (y ∷ ys) ≡ Some 0 = rw t refl in
      let e : 0 ≡ k = cc (is, h) in subst (Puts name w (y ∷ ys) x) e (put_here name w y x ys t)
  | inr t ↦ let h : place_of name (y ∷ ys) ≡ option_map suc (place_of name ys) = rw t refl in
      let (j, at, e) = later (place_of name ys) k (sym h ∙ is) in
      subst (Puts name w (y ∷ ys) x) e (put_later name w y x ys j t (puts name w ys j x at))
]

pub put_in : (name : List ℕ) (w : AdmittedStrategy) (ws : List FieldWriter) (k : ℕ) (x : FieldWriter) → place_of name ws ≡ Some k → x ≡ get_or ws k x
    → field_ways (slice_set ws k (record { name = x.name; writer = w })) ≡ with_writer (field_ways ws) name w.item
unfolding Puts
put_in name w ws k x is at = puts name w ws k x is at

-- ---- the writer of a name

named_is : (a b : List ℕ) (t : Bool) → bytes_eq a b ≡ t → bytes_eq b a ≡ t
named_is a b t e = bytes_eq_sym b a ∙ e

pub none_written : (name : List ℕ) (ws : List FieldWriter) → place_of name ws ≡ None → override name (field_ways ws) ≡ None
none_written name [] is = refl
none_written name (y ∷ ys) is = elim (either (bytes_eq y.name name)) [
  | inl t ↦ let h : place_of name (y ∷ ys) ≡ Some 0 = rw t refl in absurd (cc (is, h))
  | inr t ↦
      let h : place_of name (y ∷ ys) ≡ option_map suc (place_of name ys) = rw t refl in
      rw (named_is y.name name false t) (none_written name ys (none_later (place_of name ys) (sym h ∙ is)))
]

-- the writer in place k is the name's
Written : List ℕ → List FieldWriter → FieldWriter → ℕ → Type 0
Written name ws x k = x ≡ get_or ws k x → override name (field_ways ws) ≡ Some x.writer.item

written_here : (name : List ℕ) (y x : FieldWriter) (ys : List FieldWriter) → bytes_eq y.name name ≡ true → Written name (y ∷ ys) x 0
unfolding Written
written_here name y x ys t at = rw (named_is y.name name true t, at) refl

written_later : (name : List ℕ) (y x : FieldWriter) (ys : List FieldWriter) (j : ℕ) → bytes_eq y.name name ≡ false → Written name ys x j → Written name (y ∷ ys) x (suc j)
unfolding Written
written_later name y x ys j t rest at = rw (named_is y.name name false t) (rest at)

written : (name : List ℕ) (ws : List FieldWriter) (k : ℕ) (x : FieldWriter) → place_of name ws ≡ Some k → Written name ws x k
written name [] k x is = absurd (cc is)
written name (y ∷ ys) k x is = elim (either (bytes_eq y.name name)) [
  | inl t ↦ let h : place_of name (y ∷ ys) ≡ Some 0 = rw t refl in
      let e : 0 ≡ k = cc (is, h) in subst (Written name (y ∷ ys) x) e (written_here name y x ys t)
  | inr t ↦ let h : place_of name (y ∷ ys) ≡ option_map suc (place_of name ys) = rw t refl in
      let (j, at, e) = later (place_of name ys) k (sym h ∙ is) in
      subst (Written name (y ∷ ys) x) e (written_later name y x ys j t (written name ys j x at))
]

pub written_in : (name : List ℕ) (ws : List FieldWriter) (k : ℕ) (x : FieldWriter) → place_of name ws ≡ Some k → x ≡ get_or ws k x → override name (field_ways ws) ≡ Some x.writer.item
unfolding Written
written_in name ws k x is at = written name ws k x is at

pub ruleset writer_rules = (none_written, written_in, place_below)

pub ruleset put_rules = (put_behind, put_in, place_below)
