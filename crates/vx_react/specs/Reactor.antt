-- Rules that react: they are handed a stream's chunks one by one, and say where each chunk goes that they make of them.
use Rattle.std.specs.Prelude.{ℕ, suc, ◌==◌, Bool, true, false, if◌then◌else◌, List, [], ◌∷◌, ◌++◌}
use Rattle.vx_model.specs.Ty.{Ty}
use Rattle.vx_model.specs.ChunkData.{ChunkData}
use Rattle.vx_path.specs.Path.{under}
use Rattle.vx_rules.specs.Stream.{Chunk}
use Rattle.vx_rules.specs.Regroup.{Rule}
use Rattle.vx_rules.specs.Flushes.{concatenated}
use Rattle.vx_react.specs.declared.place.Place.{Place}
use Rattle.vx_react.specs.declared.place.Place.TheVariants.{Child, Column, Codes, Values}

-- a chunk and where it goes
abbrev pub Output : Type 0
Output = Place × ChunkData

-- A reactor: its state at first; what it gives at a chunk, in order of rank, told whether the chunk is the stream's last;
-- and its state behind a chunk that isn't the last.
pub record Reactor (S : Type 0) : Type 0 where
  pub start : S
  pub gives : S → ChunkData → Bool → List Output
  pub holds : S → ChunkData → S

-- ---- over a stream

-- an output under its path
abbrev pub Sent : Type 0
Sent = Place × Chunk

-- those that are given at one chunk have paths below its own, by their rank
abbrev pub placed : List ℕ → ℕ → List Output → List Sent
placed p r [] = []
placed p r (x ∷ xs) = (x.0, (under p r, x.1)) ∷ placed p (suc r) xs

-- all that is sent at chunks of which none is the last
abbrev pub sends : {S : Type 0} → Reactor S → S → List Chunk → List Sent
sends r s [] = []
sends r s (c ∷ cs) = placed c.0 0 (r.gives s c.1 false) ++ sends r (r.holds s c.1) cs

-- the state behind these chunks
abbrev pub state_after : {S : Type 0} → Reactor S → S → List Chunk → S
state_after r s [] = s
state_after r s (c ∷ cs) = state_after r (r.holds s c.1) cs

-- All that a stream makes it send, where a chunk is acted on only once it is known whether it is the last: of an open stream
-- the newest chunk triggers nothing.
abbrev pub reactions : {S : Type 0} → Reactor S → S → List Chunk → Bool → List Sent
reactions r s [] ended = []
reactions r s (c ∷ []) ended = if ended then placed c.0 0 (r.gives s c.1 true) else []
reactions r s (c ∷ d ∷ cs) ended = placed c.0 0 (r.gives s c.1 false) ++ reactions r (r.holds s c.1) (d ∷ cs) ended

-- ---- to one place

abbrev pub same_place : Place → Place → Bool
same_place Child Child = true
same_place (Column a) (Column b) = a == b
same_place (Codes a) (Codes b) = a == b
same_place (Values a) (Values b) = a == b
same_place a b = false

-- the stream that goes to a place
abbrev pub sent_to : Place → List Sent → List Chunk
sent_to p [] = []
sent_to p (x ∷ xs) = if same_place p x.0 then x.1 ∷ sent_to p xs else sent_to p xs

-- ---- regrouping

abbrev pub child_outputs : List ChunkData → List Output
child_outputs [] = []
child_outputs (c ∷ cs) = (Child, c) ∷ child_outputs cs

-- a stream that goes to the child as it is
abbrev pub child_sends : List Chunk → List Sent
child_sends [] = []
child_sends (c ∷ cs) = (Child, c) ∷ child_sends cs

-- a rule of regrouping gives all to the child
abbrev pub reacting : {S : Type 0} → Rule S → Reactor S
reacting r = record {
  start = r.start;
  gives = λ s c last. child_outputs (if last then r.rest s c else r.leaves s c);
  holds = r.holds;
}

-- Collecting gives one chunk of all at the last chunk, and nothing before. It is no rule of regrouping: its one output has no
-- rank, and stands at the last chunk's own path.
abbrev pub collector : Ty → Reactor (List ChunkData)
collector t = record {
  start = [];
  gives = λ cs c last. if last then child_outputs (concatenated t (cs ++ (c ∷ [])) ∷ []) else [];
  holds = λ cs c. cs ++ (c ∷ []);
}
