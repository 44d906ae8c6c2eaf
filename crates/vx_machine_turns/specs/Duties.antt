-- Children to be, each with its whole stream, and what is read off them.
use Rattle.std.specs.Prelude.{◌≡◌, ℕ, suc, Bool, List, [], ◌∷◌, ◌++◌, Option}
use Rattle.vx_model.specs.Ty.{Ty}
use Rattle.vx_path.specs.Path.{Eof}
use Rattle.vx_plan.specs.PlanData.{Setting, Item, What}
use Rattle.vx_machine_turns.specs.Forms.{Form}
use Rattle.vx_machine_turns.specs.Acts.{Seed, Act, gifts, shut, births}
use Rattle.vx_machine_turns.specs.Starts.{start_fault, seed_of}
use Rattle.vx_machine_turns.specs.Turns.{firsts}
use Rattle.vx_machine_turns.specs.Scripts.{script}
use Rattle.vx_machine_turns.specs.Fuels.{Fuel}
use Rattle.vx_machine_turns.specs.Readings.{Reading, unread}

pub record Duty : Type 0 where
  pub seed : Seed
  pub items : List Item
  pub ended : Bool
  pub eof : Eof
  -- what its start refuses
  pub start : Option What

abbrev pub duty_of : Setting → Form → Bool → List ℕ → List Item → Bool → Eof → Duty
duty_of s f m name items ended e = record { seed = seed_of f m name e; items = items; ended = ended; eof = e; start = start_fault s f m }

abbrev pub seeds : List Duty → List Seed
seeds [] = []
seeds (c ∷ cs) = c.seed ∷ seeds cs

abbrev pub duty_script : Setting → Duty → List Act
duty_script s c = script s c.seed.local c.items c.ended

-- what stands below a duty's task
abbrev pub below : {F : Type 0} → Setting → Reading F → Fuel → Duty → F
below s v d c = unread s v d 0 (firsts c.seed ++ births (duty_script s c)) (duty_script s c)

-- the actions give the children from number j on their streams
abbrev pub Given : List Act → ℕ → List Duty → Type 0
Given acts j [] = Unit {0}
Given acts j (c ∷ cs) = (gifts j acts ≡ c.items) × (shut j acts ≡ c.ended) × Given acts (suc j) cs

abbrev pub grown : {F : Type 0} → Setting → Reading F → (Ty → Fuel) → List Duty → F
grown s v g [] = v.none
grown s v g (c ∷ cs) = v.make c.seed (duty_script s c) (below s v (g c.seed.type) c) (grown s v g cs)
