-- Steps of the walk over the nodes of a layout.
use Rattle.std.proofs.Common.{◌≡◌, ℕ, ◌+◌, ◌<◌, length, drop, Ok, Err, refl}
use Rattle.vx_layout_spec.specs.LayoutTree.{LayoutData, lays_of, children_of}
use Rattle.vx_layout_tree.specs.Children.{child_in}
use Rattle.vx_layout_tree.specs.Views.{Fails}
use Rattle.vx_layout_tree.specs.declared.error.LayoutError.{LayoutError}
use Rattle.vx_layout_tree.proofs.KidSteps.{fails_by}
use Rattle.vx_layout_codec_spec.specs.Permitted.{built, all_built}
use Rattle.vx_layout_walk_laws.proofs.Walks.{built_is, drop_built, drop_refused, child_falls, depth_is}

-- ---- a step at child i, where the children before it are built

pub child_fails : (l : LayoutData ℕ) (i : ℕ) (e : LayoutError) → i < length (children_of l) → built l ≡ all_built (lays_of (drop i (children_of l)))
    → Fails e (child_in (children_of l) i) → Fails e (built l)
child_fails l i e lt so h = fails_by e (child_in (children_of l) i) (built l) (λ r is. rw so (drop_refused (children_of l) i r lt is)) h

pub below_fails : (l : LayoutData ℕ) (i : ℕ) (e : LayoutError) (m : LayoutData ℕ) → i < length (children_of l) → built l ≡ all_built (lays_of (drop i (children_of l)))
    → child_in (children_of l) i ≡ Ok m → Fails e (built m) → Fails e (built l)
below_fails l i e m lt so at h = fails_by e (built m) (built l) (λ r is. rw (so, drop_built (children_of l) i m lt at, is) refl) h

pub next_built : (l : LayoutData ℕ) (i : ℕ) (m : LayoutData ℕ) (u : Unit {0}) → i < length (children_of l) → built l ≡ all_built (lays_of (drop i (children_of l)))
    → child_in (children_of l) i ≡ Ok m → built m ≡ Ok u → built l ≡ all_built (lays_of (drop (i + 1) (children_of l)))
next_built l i m u lt so at is = rw (so, drop_built (children_of l) i m lt at, is) refl

pub ruleset build_rules = (built_is, drop_built, drop_refused, child_falls, depth_is)
