-- Specs one after the other.
use Rattle.std.proofs.Common.{◌≡◌, ℕ, ◌+◌, ◌-◌, ◌<◌, ◌^◌, ◌&&◌, Bool, true, false, List, ◌++◌, length, get_or, drop, map, Option, Some, None, refl, append_assoc}
use Rattle.std.specs.Prelude.{IsTrue}
use Rattle.std.specs.Str.{IsUtf8, is_utf8}
use Rattle.std.proofs.lemmas.Str.{IsUtf8-from_is_utf8, is_utf8-from_IsUtf8}
use Rattle.std.proofs.lemmas.List.{append-nil, drop_more, drop_all}
use Rattle.vx_model.specs.Words.{joined_by, all_by}
use Rattle.vx_byte_reader.specs.Fields.{many_at}
use Rattle.vx_byte_reader.proofs.FieldLoops.{with_front, many_stops}
use Rattle.vx_metadata.specs.declared.zoned.AggregateSpec.{AggregateSpec}
use Rattle.vx_metadata.specs.declared.read_error.ReadError.{ReadError}
use Rattle.vx_metadata.specs.declared.read_error.ReadError.TheVariants as errors
use Rattle.vx_metadata.specs.Spelled.{spec_bytes}
use Rattle.vx_metadata.specs.Values.{Zoned, is_short_spec, is_short, has_text_id, IsZoned}
use Rattle.vx_metadata.specs.Reading.{string_at, name_at}
use Rattle.vx_metadata.specs.Views.{Stops, spec_of}

pub drop_bytes : (xs : List AggregateSpec) (i : ℕ) (s : AggregateSpec) → i < length xs → s ≡ get_or xs i s
    → joined_by spec_bytes (map spec_of (drop i xs)) ≡ spec_bytes (spec_of s) ++ joined_by spec_bytes (map spec_of (drop (i + 1) xs))
drop_bytes xs i s lt is = rw (drop_more xs i s lt, ← is) refl

pub drop_short : (xs : List AggregateSpec) (i : ℕ) (s : AggregateSpec) → i < length xs → s ≡ get_or xs i s
    → all_by is_short_spec (map spec_of (drop i xs)) ≡ (is_short_spec (spec_of s) && all_by is_short_spec (map spec_of (drop (i + 1) xs)))
drop_short xs i s lt is = rw (drop_more xs i s lt, ← is) refl

pub drop_ids : (xs : List AggregateSpec) (i : ℕ) (s : AggregateSpec) → i < length xs → s ≡ get_or xs i s
    → all_by has_text_id (map spec_of (drop i xs)) ≡ (has_text_id (spec_of s) && all_by has_text_id (map spec_of (drop (i + 1) xs)))
drop_ids xs i s lt is = rw (drop_more xs i s lt, ← is) refl

pub ruleset spec_rules = (append_assoc, append-nil, drop_all, drop_bytes, drop_short, drop_ids)

pub are_zoned : (z : Zoned) → z.zone_len < 2 ^ 32 → IsTrue (is_short z) → IsTrue (all_by has_text_id z.specs) → IsZoned z
are_zoned z zone_len short ids = record { zone_len = zone_len; short = short; ids = ids }

pub ruleset zoned_rules = (are_zoned)

-- ---- ids

not_utf8 : (s : List ℕ) (b : Bool) → is_utf8 s ≡ b → (IsUtf8 s → ⊥) → b ≡ false
not_utf8 s true e h = absurd (h (IsUtf8-from_is_utf8 s e))
not_utf8 s false e h = refl

pub name_refused : (bytes s rest : List ℕ) → string_at bytes ≡ Some (s, rest) → (IsUtf8 s → ⊥) → name_at bytes ≡ None
unfolding name_at
name_refused bytes s rest e h = rw (e, not_utf8 s (is_utf8 s) refl h) refl

pub name_read : (bytes s rest : List ℕ) → string_at bytes ≡ Some (s, rest) → IsUtf8 s → name_at bytes ≡ Some (s, rest)
unfolding name_at
name_read bytes s rest e h = rw (e, is_utf8-from_IsUtf8 s h) refl

-- ---- the end of a loop

stops_with : {A B : Type 0} (e : ReadError) (r : Option A) (total : Option B) → (r ≡ None → total ≡ None) → Stops e r → Stops e total
stops_with errors.NotSpelled r total carry h = carry h
stops_with errors.OutOfMemory r total carry h = tt

pub many_ends : {A : Type 0} (e : ReadError) (read : List ℕ → Option (A × List ℕ)) (front : List A) (count i : ℕ) (bytes : List ℕ) (total : Option (List A × List ℕ)) → i < count → Stops e (read bytes)
    → with_front front (many_at read (count - i) bytes) ≡ total → Stops e total
many_ends e read front count i bytes total lt h so_far = stops_with e (read bytes) total (λ is. many_stops read front count i bytes total lt is so_far) h
