-- A source with named batches, on top of a root that is good for them, makes a tree that keeps the rules.
use Rattle.std.specs.Prelude.{◌≡◌, ℕ, Bool, [], ◌∷◌}
use Rattle.vx_path.specs.Path.{Eof}
use Rattle.vx_tasks.specs.Task.{Task, Forest}
use Rattle.vx_tasks.specs.Rules.{KeepsRules, KeepsOrder, Rises, names}
use Rattle.vx_tasks.specs.Nodes.{batch_paths, machine}
use Rattle.vx_tasks.specs.Good.{Good}
use Rattle.vx_named_tasks.specs.Names.{Names, onward, CanName, paths_from, named_machine, root_outset, column_outset, CanBegin}

-- where each batch has a path: whatever the order of the ids, since all that are left are held
abbrev pub NamedSourcesKeep : Type 0
NamedSourcesKeep = (ns : Names) (n : ℕ) (fits : Bool) (e : Eof) (root : Task) (kids : Forest) → CanName ns n → Good (1 ∷ []) (paths_from ns n) fits e root kids
    → KeepsRules (named_machine ns n fits root kids) × KeepsOrder (named_machine ns n fits root kids) × Rises (names (named_machine ns n fits root kids))

-- a pointer's source is the one of whole machines
abbrev pub OnwardIsSource : Type 0
OnwardIsSource = (here : Eof) (n : ℕ) (fits : Bool) (root : Task) (kids : Forest)
    → (paths_from (onward here) n ≡ batch_paths here n) × (named_machine (onward here) n fits root kids ≡ machine here n fits root kids)

-- the root's machine can begin with any number of batches
abbrev pub RootBegins : Type 0
RootBegins = (n : ℕ) → CanBegin root_outset n

-- and a column's with all of its batches
abbrev pub ColumnBegins : Type 0
ColumnBegins = (c n : ℕ) → CanBegin (column_outset c n) n
