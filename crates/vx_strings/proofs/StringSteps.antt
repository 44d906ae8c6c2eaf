-- Steps of the loops over strings.
use Rattle.std.proofs.Common.{◌≡◌, ℕ, zero, suc, ◌+◌, ◌-◌, ◌<◌, ◌≤◌, ◌^◌, Bool, true, false, List, [], ◌∷◌, ◌++◌, length, get_or, drop, take, refl, sym, ap, ◌∙◌, append_assoc, length-append, arith}
use Rattle.std.specs.Prelude.{if◌then◌else◌, nat_le}
use Rattle.std.specs.Str.{is_utf8}
use Rattle.std.proofs.lemmas.Str.{IsUtf8-from_is_utf8, is_utf8-from_IsUtf8, IsUtf8-nil}
use Rattle.std.proofs.lemmas.List.{append-nil, length-take, length-drop, map_push, map_more, length-map, take-append-le, drop-take, drop_at, take_all}
use Rattle.std.proofs.lemmas.Bool.{and_from, and_parts}
use Rattle.vx_model.specs.Words.{all_by, head_or, tail}
use Rattle.vx_model.specs.CellData.{CellData, null_cell, text_spelling, flag_bytes, u64_bytes}
use Rattle.vx_model.specs.ChunkData.{are_offsets}
use Rattle.vx_layout_spec.specs.Real.{is_byte, is_real_cell}
use Rattle.vx_layout_spec.proofs.CellsFit.{all_append, all_take, all_drop}
use Rattle.vx_chunk_cells.specs.Window.{last_of}
use Rattle.vx_chunk_cells.proofs.Tests.{tests_le, le_test, below_test}
use Rattle.vx_chunk_cells.proofs.RowWindows.{drop-tail}
use Rattle.vx_chunk_cells.proofs.OffsetLaws.{some_offset, offsets_window}
use Rattle.vx_strings.specs.declared.kind.StringKind.{StringKind}
use Rattle.vx_strings.specs.declared.kind.StringKind.TheVariants.{Utf8, Binary}
use Rattle.vx_typed.specs.Typed.{typed_cells}
use Rattle.vx_strings.specs.StringCells.{strings_between, is_string, string_cell, string_length, may_be, AreStrings, Grown}
use Rattle.vx_typed.proofs.Steps.{drop_typed, typed_ends, typed_length, typed_window, typed_push, one_unfit}

-- ---- offsets

pub strings_length : (bytes os : List ℕ) → length (strings_between bytes os) ≡ length os - 1
strings_length bytes [] = omega arith
strings_length bytes (a ∷ []) = omega arith
strings_length bytes (a ∷ b ∷ os) = let r : length (strings_between bytes (b ∷ os)) ≡ length (b ∷ os) - 1 = strings_length bytes (b ∷ os) in omega (arith, r)

ascends : (count : ℕ) (os : List ℕ) (i : ℕ) → are_offsets count os ≡ true → i + 1 < length os → get_or os i 0 ≤ get_or os (i + 1) 0
ascends count [] i h lt = absurd (omega (arith, lt))
ascends count (a ∷ []) i h lt = absurd (omega (arith, lt))
ascends count (a ∷ b ∷ os) zero h lt = tests_le a b (and_parts (nat_le a b) _ h).0
ascends count (a ∷ b ∷ os) (suc i) h lt =
    let e : suc i + 1 ≡ suc (i + 1) = omega arith in
    rw e (ascends count (b ∷ os) i (and_parts (nat_le a b) _ h).1 (omega (arith, lt)))

ends_within : (count : ℕ) (os : List ℕ) (i : ℕ) → are_offsets count os ≡ true → i < length os → get_or os i 0 ≤ count
ends_within count [] i h lt = absurd (omega (arith, lt))
ends_within count (a ∷ []) zero h lt = tests_le a count h
ends_within count (a ∷ []) (suc i) h lt = absurd (omega (arith, lt))
ends_within count (a ∷ b ∷ os) zero h lt =
    let low : a ≤ b = tests_le a b (and_parts (nat_le a b) _ h).0 in
    let high : b ≤ count = ends_within count (b ∷ os) 0 (and_parts (nat_le a b) _ h).1 (omega arith) in
    omega arith
ends_within count (a ∷ b ∷ os) (suc i) h lt = ends_within count (b ∷ os) i (and_parts (nat_le a b) _ h).1 (omega (arith, lt))

string_get : (bytes os : List ℕ) (i : ℕ) → i + 1 < length os → get_or (strings_between bytes os) i [] ≡ take (get_or os (i + 1) 0 - get_or os i 0) (drop (get_or os i 0) bytes)
string_get bytes [] i lt = absurd (omega (arith, lt))
string_get bytes (a ∷ []) i lt = absurd (omega (arith, lt))
string_get bytes (a ∷ b ∷ os) zero lt = refl
string_get bytes (a ∷ b ∷ os) (suc i) lt =
    let e : suc i + 1 ≡ suc (i + 1) = omega arith in
    rw e (string_get bytes (b ∷ os) i (omega (arith, lt)))

all_get : {X : Type 0} (f : X → Bool) (xs : List X) (i : ℕ) (d : X) → all_by f xs ≡ true → i < length xs → f (get_or xs i d) ≡ true
all_get f [] i d h lt = absurd (omega (arith, lt))
all_get f (x ∷ xs) zero d h lt = (and_parts (f x) _ h).0
all_get f (x ∷ xs) (suc i) d h lt = all_get f xs i d (and_parts (f x) _ h).1 (omega (arith, lt))

-- what is known of a row's string
pub row_here : (kind : StringKind) (bytes os : List ℕ) (i : ℕ) → AreStrings kind bytes os → i < length (strings_between bytes os) → i + 1 < length os
row_here kind bytes os i h lt = omega (arith, strings_length bytes os, lt)

pub row_order : (kind : StringKind) (bytes os : List ℕ) (i : ℕ) → AreStrings kind bytes os → i < length (strings_between bytes os) → get_or os i 0 ≤ get_or os (i + 1) 0
row_order kind bytes os i h lt = ascends (length bytes) os i h.ascend (row_here kind bytes os i h lt)

pub row_within : (kind : StringKind) (bytes os : List ℕ) (i : ℕ) → AreStrings kind bytes os → i < length (strings_between bytes os) → get_or os (i + 1) 0 ≤ length bytes
row_within kind bytes os i h lt = ends_within (length bytes) os (i + 1) h.ascend (row_here kind bytes os i h lt)

pub row_is : (kind : StringKind) (bytes os : List ℕ) (i : ℕ) → AreStrings kind bytes os → i < length (strings_between bytes os) → get_or (strings_between bytes os) i [] ≡ take (get_or os (i + 1) 0 - get_or os i 0) (drop (get_or os i 0) bytes)
row_is kind bytes os i h lt = string_get bytes os i (row_here kind bytes os i h lt)

pub row_fine : (kind : StringKind) (bytes os : List ℕ) (i : ℕ) → AreStrings kind bytes os → i < length (strings_between bytes os) → may_be kind (take (get_or os (i + 1) 0 - get_or os i 0) (drop (get_or os i 0) bytes)) ≡ true
row_fine kind bytes os i h lt = rw (← row_is kind bytes os i h lt) (all_get (may_be kind) (strings_between bytes os) i [] h.strings lt)

-- ---- some of the strings

drop_strings : (bytes os : List ℕ) (k : ℕ) → strings_between bytes (drop k os) ≡ drop k (strings_between bytes os)
drop_strings bytes os zero = refl
drop_strings bytes [] (suc k) = refl
drop_strings bytes (a ∷ []) (suc zero) = refl
drop_strings bytes (a ∷ []) (suc (suc k)) = refl
drop_strings bytes (a ∷ b ∷ os) (suc k) = drop_strings bytes (b ∷ os) k

take_strings : (bytes os : List ℕ) (k : ℕ) → strings_between bytes (take (suc k) os) ≡ take k (strings_between bytes os)
take_strings bytes [] zero = refl
take_strings bytes [] (suc k) = refl
take_strings bytes (a ∷ []) zero = refl
take_strings bytes (a ∷ []) (suc k) = refl
take_strings bytes (a ∷ b ∷ os) zero = refl
take_strings bytes (a ∷ b ∷ os) (suc k) = ap (λ r. take (b - a) (drop a bytes) ∷ r) (take_strings bytes (b ∷ os) k)

pub strings_window : (bytes os : List ℕ) (from to : ℕ) → from ≤ to → strings_between bytes (take ((to + 1) - from) (drop from os)) ≡ take (to - from) (drop from (strings_between bytes os))
strings_window bytes os from to le =
    let e : (to + 1) - from ≡ suc (to - from) = omega arith in
    rw (e, take_strings bytes (drop from os) (to - from), drop_strings bytes os from) refl

pub are_window : (kind : StringKind) (bytes os : List ℕ) (from to : ℕ) → AreStrings kind bytes os → from ≤ to → to < length os → AreStrings kind bytes (take ((to + 1) - from) (drop from os))
are_window kind bytes os from to h le lt = record {
  ascend = offsets_window (length bytes) from to os h.ascend le lt;
  strings = rw (strings_window bytes os from to le) (all_take (may_be kind) (to - from) (drop from (strings_between bytes os)) (all_drop (may_be kind) from (strings_between bytes os) h.strings));
}

pub some_string : (kind : StringKind) (bytes os : List ℕ) → AreStrings kind bytes os → 1 ≤ length os
some_string kind bytes os h = some_offset (length bytes) os h.ascend

-- ---- one string more

same_front : (bytes s : List ℕ) (a b : ℕ) → a ≤ b → b ≤ length bytes → take (b - a) (drop a (bytes ++ s)) ≡ take (b - a) (drop a bytes)
same_front bytes s a b le within =
    sym (drop-take a (b - a) (bytes ++ s)) ∙ ap (λ (r : List ℕ). drop a r) (take-append-le (a + (b - a)) bytes s (omega (arith, le, within))) ∙ drop-take a (b - a) bytes

last_string : (bytes s : List ℕ) → take (length bytes + length s - length bytes) (drop (length bytes) (bytes ++ s)) ≡ s
last_string bytes s =
    let e : length bytes + length s - length bytes ≡ length s = omega arith in
    rw (e, drop_at bytes s (length bytes) refl) (take_all (length s) s (omega arith))

strings_push : (bytes s os : List ℕ) → are_offsets (length bytes) os ≡ true → last_of os ≡ length bytes → strings_between (bytes ++ s) (os ++ (length bytes + length s) ∷ []) ≡ strings_between bytes os ++ s ∷ []
strings_push bytes s [] h e = absurd (omega (arith, some_offset (length bytes) [] h))
strings_push bytes s (a ∷ []) h e = rw e (ap (λ (r : List ℕ). r ∷ []) (last_string bytes s))
strings_push bytes s (a ∷ b ∷ os) h e =
    let low : a ≤ b = tests_le a b (and_parts (nat_le a b) _ h).0 in
    let high : b ≤ length bytes = ends_within (length bytes) (b ∷ os) 0 (and_parts (nat_le a b) _ h).1 (omega arith) in
    ap (λ (r : List ℕ). r ∷ strings_between (bytes ++ s) ((b ∷ os) ++ (length bytes + length s) ∷ [])) (same_front bytes s a b low high)
    ∙ ap (λ (r : List (List ℕ)). take (b - a) (drop a bytes) ∷ r) (strings_push bytes s (b ∷ os) (and_parts (nat_le a b) _ h).1 e)

offsets_push : (count more : ℕ) (os : List ℕ) → are_offsets count os ≡ true → last_of os ≡ count → are_offsets (count + more) (os ++ (count + more) ∷ []) ≡ true
offsets_push count more [] h e = absurd (omega (arith, some_offset count [] h))
offsets_push count more (a ∷ []) h e = and_from (nat_le a (count + more)) _ (le_test a (count + more) (omega (arith, e))) (le_test (count + more) (count + more) (omega arith))
offsets_push count more (a ∷ b ∷ os) h e = and_from (nat_le a b) _ (and_parts (nat_le a b) _ h).0 (offsets_push count more (b ∷ os) (and_parts (nat_le a b) _ h).1 e)

last_push : (os : List ℕ) (n : ℕ) → last_of (os ++ n ∷ []) ≡ n
last_push [] n = refl
last_push (a ∷ []) n = refl
last_push (a ∷ b ∷ os) n = last_push (b ∷ os) n

more_bytes : (bytes s new_bytes : List ℕ) → new_bytes ≡ bytes ++ s → length new_bytes ≡ length bytes + length s
more_bytes bytes s new_bytes e = rw e (length-append bytes s)

more_offsets : (bytes s os new_bytes new_os : List ℕ) → new_bytes ≡ bytes ++ s → new_os ≡ os ++ length new_bytes ∷ [] → new_os ≡ os ++ (length bytes + length s) ∷ []
more_offsets bytes s os new_bytes new_os e f = f ∙ ap (λ (n : ℕ). os ++ n ∷ []) (more_bytes bytes s new_bytes e)

pub grown_strings : (kind : StringKind) (bytes os s new_bytes new_os : List ℕ) → Grown kind bytes os → new_bytes ≡ bytes ++ s → new_os ≡ os ++ length new_bytes ∷ [] → strings_between new_bytes new_os ≡ strings_between bytes os ++ s ∷ []
grown_strings kind bytes os s new_bytes new_os h e f = rw (more_offsets bytes s os new_bytes new_os e f, e) (strings_push bytes s os h.are.ascend h.ended)

pub grown_more : (kind : StringKind) (bytes os s new_bytes new_os : List ℕ) → Grown kind bytes os → may_be kind s ≡ true → new_bytes ≡ bytes ++ s → new_os ≡ os ++ length new_bytes ∷ [] → Grown kind new_bytes new_os
grown_more kind bytes os s new_bytes new_os h fine e f =
    let long : length new_bytes ≡ length bytes + length s = more_bytes bytes s new_bytes e in
    let ends : new_os ≡ os ++ (length bytes + length s) ∷ [] = more_offsets bytes s os new_bytes new_os e f in
    let same : strings_between new_bytes new_os ≡ strings_between bytes os ++ s ∷ [] = grown_strings kind bytes os s new_bytes new_os h e f in
    record {
      are = record {
        ascend = rw (long, ends) (offsets_push (length bytes) (length s) os h.are.ascend h.ended);
        strings = rw same (all_append (may_be kind) (strings_between bytes os) (s ∷ []) h.are.strings (and_from (may_be kind s) true fine refl));
      };
      ended = rw (ends, long) (last_push os (length bytes + length s));
    }

pub grown_none : (kind : StringKind) → Grown kind [] (0 ∷ [])
grown_none kind = record { are = record { ascend = refl; strings = refl }; ended = refl }

-- one row more
pub rows_more : (kind : StringKind) (bytes os new_bytes new_os s : List ℕ) (valid new_valid : List Bool) (flag : Bool) (done : List CellData) (c : CellData)
    → strings_between new_bytes new_os ≡ strings_between bytes os ++ s ∷ [] → new_valid ≡ valid ++ flag ∷ [] → length valid ≡ length (strings_between bytes os)
    → (if flag then string_cell kind s else null_cell) ≡ c → typed_cells (string_cell kind) (strings_between bytes os) valid ≡ done
    → typed_cells (string_cell kind) (strings_between new_bytes new_os) new_valid ≡ done ++ c ∷ []
rows_more kind bytes os new_bytes new_os s valid new_valid flag done c more v long found so_far =
    rw (more, v, typed_push (string_cell kind) (strings_between bytes os) valid s flag long, so_far, found) refl

pub flags_more : (bytes os new_bytes new_os s : List ℕ) (valid new_valid : List Bool) (flag : Bool)
    → strings_between new_bytes new_os ≡ strings_between bytes os ++ s ∷ [] → new_valid ≡ valid ++ flag ∷ [] → length valid ≡ length (strings_between bytes os) → length new_valid ≡ length (strings_between new_bytes new_os)
flags_more bytes os new_bytes new_os s valid new_valid flag more v long =
    rw (more, v) (length-append valid (flag ∷ []) ∙ ap (λ (n : ℕ). n + 1) long ∙ sym (length-append (strings_between bytes os) (s ∷ [])))

-- how many rows there are
pub rows_length : (kind : StringKind) (bytes os : List ℕ) (bs : List Bool) (cs : List CellData) → typed_cells (string_cell kind) (strings_between bytes os) bs ≡ cs → length cs ≡ length os - 1
rows_length kind bytes os bs cs e = ap (λ (r : List CellData). length r) (sym e) ∙ typed_length (string_cell kind) (strings_between bytes os) bs ∙ strings_length bytes os

pub row_below : (kind : StringKind) (bytes os : List ℕ) (bs : List Bool) (cs : List CellData) (to : ℕ) → typed_cells (string_cell kind) (strings_between bytes os) bs ≡ cs → AreStrings kind bytes os → to ≤ length cs → to < length os
row_below kind bytes os bs cs to e h le = omega (arith, rows_length kind bytes os bs cs e, some_string kind bytes os h, le)

-- ---- what cells they are

pub all_strings : (kind : StringKind) (ss : List (List ℕ)) (bs : List Bool) → all_by is_string (typed_cells (string_cell kind) ss bs) ≡ true
all_strings kind [] bs = refl
all_strings kind (s ∷ ss) bs = and_from (is_string (if head_or true bs then string_cell kind s else null_cell)) _ (one kind (head_or true bs)) (all_strings kind ss (tail bs))
  where
    one : (kind : StringKind) (b : Bool) → is_string (if b then string_cell kind s else null_cell) ≡ true
    one Utf8 true = refl
    one Binary true = refl
    one kind false = refl

real_string : (kind : StringKind) (s : List ℕ) → may_be kind s ≡ true → all_by is_byte s ≡ true → length s < 2 ^ 64 → is_real_cell (string_cell kind s) ≡ true
real_string Utf8 s fine bytes short = and_from (is_utf8 s) _ fine (below_test (length s) short)
real_string Binary s fine bytes short = and_from (all_by is_byte s) _ bytes (below_test (length s) short)

pub real_strings : (kind : StringKind) (bytes os : List ℕ) (bs : List Bool) → all_by (may_be kind) (strings_between bytes os) ≡ true → all_by is_byte bytes ≡ true → length bytes < 2 ^ 64
    → all_by is_real_cell (typed_cells (string_cell kind) (strings_between bytes os) bs) ≡ true
real_strings kind bytes [] bs h real short = refl
real_strings kind bytes (a ∷ []) bs h real short = refl
real_strings kind bytes (a ∷ b ∷ os) bs h real short =
    let count : length (take (b - a) (drop a bytes)) < 2 ^ 64 = simp (length-take, length-drop) (omega (arith, short)) in
    let both = and_parts (may_be kind (take (b - a) (drop a bytes))) (all_by (may_be kind) (strings_between bytes (b ∷ os))) h in
    and_from (is_real_cell (if head_or true bs then string_cell kind (take (b - a) (drop a bytes)) else null_cell)) _
    (one (head_or true bs) (real_string kind (take (b - a) (drop a bytes)) both.0 (all_take is_byte (b - a) (drop a bytes) (all_drop is_byte a bytes real)) count))
    (real_strings kind bytes (b ∷ os) (tail bs) both.1 real short)
  where
    one : (valid : Bool) → is_real_cell (string_cell kind (take (b - a) (drop a bytes))) ≡ true → is_real_cell (if valid then string_cell kind (take (b - a) (drop a bytes)) else null_cell) ≡ true
    one true is = is
    one false is = refl

-- ---- rules

pub string_spelled : (kind : StringKind) (n : Bool) (s : List ℕ) → text_spelling n (string_cell kind s) ≡ flag_bytes n true ++ (u64_bytes (length s) ++ s)
string_spelled Utf8 n s = refl
string_spelled Binary n s = refl

pub string_len : (kind : StringKind) (s : List ℕ) → string_length (string_cell kind s) ≡ length s
string_len Utf8 s = refl
string_len Binary s = refl

pub no_text : is_utf8 [] ≡ true
no_text = is_utf8-from_IsUtf8 [] IsUtf8-nil

pub ruleset at_rules = (row_here, row_order, row_within, row_is, row_fine)

pub ruleset text_rules = (IsUtf8-from_is_utf8, is_utf8-from_IsUtf8, no_text)

pub ruleset row_rules = (append_assoc, append-nil, string_spelled, string_len)

-- a row more, told of its place
pub drop_rows : (f : List ℕ → CellData) (ss : List (List ℕ)) (bs : List Bool) (i : ℕ) → i < length ss
    → typed_cells f (drop i ss) (drop i bs) ≡ (if head_or true (drop i bs) then f (get_or ss i []) else null_cell) ∷ typed_cells f (drop (i + 1) ss) (drop (i + 1) bs)
drop_rows f ss bs i lt = drop_typed f ss bs i (get_or ss i []) lt (same_default ss i (get_or ss i []) lt)
  where
    same_default : (ss : List (List ℕ)) (i : ℕ) (d : List ℕ) → i < length ss → get_or ss i [] ≡ get_or ss i d
    same_default [] i d lt = absurd (omega (arith, lt))
    same_default (s ∷ ss) zero d lt = refl
    same_default (s ∷ ss) (suc i) d lt = same_default ss i d (omega (arith, lt))

pub ruleset loop_rules = (append_assoc, append-nil, map_push, drop_rows, typed_ends, strings_length, some_string)

pub ruleset push_rules = (length-append)

pub ruleset grown_rules = (append_assoc, append-nil, map_push, map_more, typed_push, one_unfit, length-append, length-map, grown_more, grown_strings, grown_none, strings_length)

pub rows_get : (f : List ℕ → CellData) (ss : List (List ℕ)) (bs : List Bool) (i : ℕ) → i < length ss → get_or (typed_cells f ss bs) i null_cell ≡ (if head_or true (drop i bs) then f (get_or ss i []) else null_cell)
rows_get f [] bs i lt = absurd (omega (arith, lt))
rows_get f (s ∷ ss) bs zero lt = refl
rows_get f (s ∷ ss) bs (suc i) lt = rows_get f ss (tail bs) i (omega (arith, lt)) ∙ ap (λ r. if head_or true r then f (get_or ss i []) else null_cell) (drop-tail i bs)

pub ruleset model_rules = (rows_get, typed_length, typed_window, strings_length, strings_window, are_window, some_string, length-take, length-drop)
