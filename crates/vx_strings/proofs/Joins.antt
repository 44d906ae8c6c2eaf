-- Strings behind others.
use Rattle.std.proofs.Common.{◌≡◌, ℕ, ◌+◌, ◌-◌, ◌<◌, ◌≤◌, Bool, true, List, [], ◌∷◌, ◌++◌, length, get_or, drop, take, refl, sym, ap, ap₂, ◌∙◌, append_assoc, arith}
use Rattle.std.specs.Prelude.{nat_le}
use Rattle.std.proofs.lemmas.List.{append-nil, length-take-le, drop_more, drop_all, drop-take, take-take}
use Rattle.std.proofs.lemmas.Bool.{and_from, and_parts}
use Rattle.vx_model.specs.Words.{all_by}
use Rattle.vx_model.specs.CellData.{CellData}
use Rattle.vx_model.specs.ChunkData.{are_offsets}
use Rattle.vx_chunk_cells.specs.Window.{last_of}
use Rattle.vx_chunk_cells.proofs.Tests.{tests_le, le_test}
use Rattle.vx_chunk_cells.proofs.ListSteps.{first_is, last_at}
use Rattle.vx_chunk_cells.proofs.OffsetLaws.{offsets_within}
use Rattle.vx_strings.specs.declared.kind.StringKind.{StringKind}
use Rattle.vx_typed.specs.Typed.{typed_cells, joined_flags}
use Rattle.vx_typed.proofs.Joins.{joined_cells, typed_needed}
use Rattle.vx_strings.specs.StringCells.{strings_between, string_cell, may_be, AreStrings, Grown}
use Rattle.vx_strings.proofs.StringSteps.{strings_length, some_string, grown_none}

-- a string that ends within the first n bytes
front_string : (bytes : List ℕ) (a b n : ℕ) → a ≤ b → b ≤ n → take (b - a) (drop a (take n bytes)) ≡ take (b - a) (drop a bytes)
front_string bytes a b n low high =
    let e : n ≡ a + (n - a) = omega arith in
    ap (λ (k : ℕ). take (b - a) (drop a (take k bytes))) e ∙ ap (take (b - a)) (drop-take a (n - a) bytes) ∙ take-take (b - a) (n - a) (drop a bytes) (omega arith)

front_strings : (bytes os : List ℕ) (n count : ℕ) → are_offsets count os ≡ true → last_of os ≡ n → strings_between (take n bytes) os ≡ strings_between bytes os
front_strings bytes [] n count h e = refl
front_strings bytes (a ∷ []) n count h e = refl
front_strings bytes (a ∷ b ∷ os) n count h e =
    let both = and_parts (nat_le a b) _ h in
    let low : a ≤ b = tests_le a b both.0 in
    let within = offsets_within count (b ∷ os) both.1 in
    let last : last_of (b ∷ os) ≡ n = e in
    let high : b ≤ n = omega (arith, within.2, last) in
    ap₂ (λ (s : List ℕ) (r : List (List ℕ)). s ∷ r) (front_string bytes a b n low high) (front_strings bytes (b ∷ os) n count both.1 e)

to_last : (count : ℕ) (os : List ℕ) → are_offsets count os ≡ true → are_offsets (last_of os) os ≡ true
to_last count [] h = cc
to_last count (a ∷ []) h = le_test a a (omega arith)
to_last count (a ∷ b ∷ os) h = and_from (nat_le a b) _ (and_parts (nat_le a b) _ h).0 (to_last count (b ∷ os) (and_parts (nat_le a b) _ h).1)

-- the bytes up to where the last string ends
pub front_same : (kind : StringKind) (bytes os cut : List ℕ) → AreStrings kind bytes os → cut ≡ take (last_of os) bytes → strings_between cut os ≡ strings_between bytes os
front_same kind bytes os cut h e = ap (λ (s : List ℕ). strings_between s os) e ∙ front_strings bytes os (last_of os) (length bytes) h.ascend refl

pub front_grown : (kind : StringKind) (bytes os cut : List ℕ) → AreStrings kind bytes os → cut ≡ take (last_of os) bytes → Grown kind cut os
front_grown kind bytes os cut h e =
    let within = offsets_within (length bytes) os h.ascend in
    let long : length cut ≡ last_of os = ap length e ∙ length-take-le (last_of os) bytes within.1 in
    record {
      are = record {
        ascend = ap (λ (n : ℕ). are_offsets n os) long ∙ to_last (length bytes) os h.ascend;
        strings = ap (λ (ss : List (List ℕ)). all_by (may_be kind) ss) (front_same kind bytes os cut h e) ∙ h.strings;
      };
      ended = sym long;
    }

-- where the last string ends, told by the offsets that are looked at
pub last_within : (kind : StringKind) (bytes os places : List ℕ) → AreStrings kind bytes os → places ≡ os → get_or places (length places - 1) 0 ≤ length bytes
last_within kind bytes os places h same = rw (same, last_at os (some_string kind bytes os h)) (offsets_within (length bytes) os h.ascend).1

pub front_kept : (kind : StringKind) (bytes os places cut kept : List ℕ) → AreStrings kind bytes os → places ≡ os → cut ≡ take (get_or places (length places - 1) 0) bytes → kept ≡ os → Grown kind cut kept
front_kept kind bytes os places cut kept h same e is =
    let last : get_or places (length places - 1) 0 ≡ last_of os = ap (λ (r : List ℕ). get_or r (length r - 1) 0) same ∙ last_at os (some_string kind bytes os h) in
    rw is (front_grown kind bytes os cut h (e ∙ ap (λ (n : ℕ). take n bytes) last))

-- one string more of those that come behind
pub pushed_next : (done all more : List (List ℕ)) (i : ℕ) (s : List ℕ) (next : List (List ℕ)) → i < length more → s ≡ get_or more i [] → next ≡ done ++ s ∷ [] → done ++ drop i more ≡ all → next ++ drop (i + 1) more ≡ all
pushed_next done all more i s next lt is e h =
    ap (λ (r : List (List ℕ)). r ++ drop (i + 1) more) e ∙ append_assoc done (s ∷ []) (drop (i + 1) more)
    ∙ ap (λ (r : List (List ℕ)). done ++ r) (ap (λ (x : List ℕ). x ∷ drop (i + 1) more) is ∙ sym (drop_more more i [] lt)) ∙ h

-- all of them
pub pushed_all : (done all more : List (List ℕ)) (i : ℕ) → length more ≤ i → done ++ drop i more ≡ all → done ≡ all
pushed_all done all more i le h = sym (append-nil done) ∙ ap (λ (r : List (List ℕ)). done ++ r) (sym (drop_all i more le)) ∙ h

-- the strings and the flags of both, where the others are looked at
pub strings_joined : (kind other : StringKind) (xb xo yb yo zb zo ys ps : List ℕ) (bs cs ds es : List Bool) (n m : ℕ) (first second : List CellData)
    → kind ≡ other → ys ≡ yb → ps ≡ yo → es ≡ cs
    → strings_between zb zo ≡ strings_between xb xo ++ strings_between ys ps → ds ≡ joined_flags n bs m es → n ≡ length xo - 1 → m ≡ length ps - 1
    → typed_cells (string_cell kind) (strings_between xb xo) bs ≡ first → typed_cells (string_cell other) (strings_between yb yo) cs ≡ second → typed_cells (string_cell kind) (strings_between zb zo) ds ≡ first ++ second
strings_joined kind other xb xo yb yo zb zo ys ps bs cs ds es n m first second same ys_is ps_is es_is values flags long more one two =
    let behind : typed_cells (string_cell kind) (strings_between ys ps) es ≡ second =
    ap (λ (k : StringKind). typed_cells (string_cell k) (strings_between ys ps) es) same
    ∙ ap₂ (λ (ss : List (List ℕ)) (r : List Bool). typed_cells (string_cell other) ss r) (ap₂ strings_between ys_is ps_is) es_is ∙ two in
    joined_cells (string_cell kind) (strings_between xb xo) (strings_between ys ps) (strings_between zb zo) bs es ds n m first second values flags
    (long ∙ sym (strings_length xb xo)) (more ∙ sym (strings_length ys ps)) one behind

pub ruleset string_rules = (typed_needed, strings_length)

pub ruleset own_rules = (append_assoc, append-nil, grown_none, front_same, front_grown, strings_length, some_string, first_is, last_at)
