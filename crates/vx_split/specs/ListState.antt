-- What the splitters know.
use Rattle.std.specs.Prelude.{ℕ, Bool, refl}
use Rattle.std.specs.Coded.{Coded, code_by, coded×, coded_ℕ, coded_bool}
use base.Stored.{Gv}
use denote.Struct.Codes.{itself}
use Rattle.vx_model.specs.Ty.{Ty, nullable}
use Rattle.vx_model.specs.Codes.{ty_code, ty_of, ty_back}
use Rattle.vx_model.specs.ChunkData.{ChunkData}
use Rattle.vx_chunk_cells.specs.Parts.{element_type}
use Rattle.vx_react.specs.Reactor.{Reactor}
use Rattle.vx_react.specs.Splitter.{Splitting, list_splitter}

-- that of structs: the type
abbrev pub ty_coded : Coded Ty
ty_coded = code_by Gv itself ty_code ty_of ty_back

-- that of lists: the type, whether the first chunk is still to come, and how many elements the chunks so far have
pub record ListState : Type 0 where
  pub typed : Ty
  pub first : Bool
  pub base : ℕ

abbrev pub state_at : Ty → Bool → ℕ → ListState
state_at t first base = record { typed = t; first = first; base = base }

-- ---- what the rule says

abbrev pub splitting_of : ListState → Splitting
splitting_of s = record { first = s.first; base = s.base }

abbrev pub with_splitting : ListState → Splitting → ListState
with_splitting s x = state_at s.typed x.first x.base

-- the splitter of lists of a type
abbrev pub splitter_at : Ty → Reactor Splitting
splitter_at t = list_splitter (element_type t) (nullable t)

-- behind the next chunk
abbrev pub behind : ListState → ChunkData → ListState
behind s p = with_splitting s ((splitter_at s.typed).holds (splitting_of s) p)

-- the elements up to its end
abbrev pub elements_to : ListState → ChunkData → ℕ
elements_to s p = (behind s p).base

-- ---- as trees of numbers

abbrev pub state_coded : Coded ListState
state_coded = code_by (Ty × (Bool × ℕ)) (coded× ty_coded (coded× coded_bool coded_ℕ)) (λ s. (s.typed, (s.first, s.base))) (λ p. state_at p.0 p.1.0 p.1.1) (λ _. refl)
