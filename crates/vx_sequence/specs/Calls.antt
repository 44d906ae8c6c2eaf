-- Lists of calls on the ids and pointers of one universe.
use Rattle.std.specs.Prelude.{ℕ, List, [], ◌∷◌, IsTrue}
use Rattle.vx_path.specs.Path.{path_lt, begins, Eof, eof_path, raised}
use Rattle.vx_sequence.specs.Universe.{Active, IsActive, IsOpen, advanced, descended, released}

-- a call that changes the universe. `downgrade` changes nothing, and `split_off` and `split` are an advance and a descend
pub data Call : Type 0 where
  advance : Eof → Call
  descend : List ℕ → Call
  release : List ℕ → Call

-- the condition of a call
abbrev pub MayCall : Active → Call → Type 0
MayCall u (advance e) = IsOpen u (eof_path e)
MayCall u (descend p) = IsActive u p
MayCall u (release p) = IsActive u p

-- what a call leaves
abbrev pub after : Active → Call → Active
after u (advance e) = advanced u e
after u (descend p) = descended u p
after u (release p) = released u p

-- each call of the list meets its condition when its turn comes
abbrev pub MayRun : Active → List Call → Type 0
MayRun u [] = Unit {0}
MayRun u (c ∷ calls) = MayCall u c × MayRun (after u c) calls

-- what the list of calls leaves
abbrev pub after_all : Active → List Call → Active
after_all u [] = u
after_all u (c ∷ calls) = after_all (after u c) calls

-- q is greater than some active path
abbrev pub IsAbove : Active → List ℕ → Type 0
IsAbove u q = (p : List ℕ) × IsActive u p × IsTrue (path_lt p q)

-- x goes on from the pointer's path e or from a later sibling of it, e + j
abbrev pub GoesOn : Eof → List ℕ → Type 0
GoesOn e x = (j : ℕ) × IsTrue (begins (raised e j) x)
