use Rattle.std.proofs.Common.{◌-◌, ◌*◌, ◌<◌, ◌≤◌, ◌^◌, refl, sym, ◌∙◌, subst, arith}
use Rattle.std.specs.Prelude.{min}
use Rattle.vx_regroup.specs.Refusals.{Refuses}
use Rattle.vx_regroup.proofs.FlushSteps.{weights_are, more_stands, none_leave, all_stay, some_leave, some_stay}
use Rattle.vx_regroup.proofs.buffered.pushed.Goals as goal

pub returns-then-total-saturating_mul-clause-leaves : goal.returns-then-total-saturating_mul-clause-leaves
returns-then-total-saturating_mul-clause-leaves c =
    let few : c.in-Ok.total < min (2 * c.args.size) (2 ^ 64 - 1) = omega arith in
    c.new.ensures.items
    ∙ none_leave c.args.kept.items c.args.total c.args.chunk c.in-Ok.bytes c.requires c.in-Ok.ensures.bytes c.push_back.new.self.items c.in-Ok.total
    (record { chunk = c.args.chunk; bytes = c.in-Ok.bytes }) c.in_ok-push_back-in-Ok.ensures.items refl refl c.in-Ok.ensures.total c.args.size few

pub returns-then-total-saturating_mul-clause-holds : goal.returns-then-total-saturating_mul-clause-holds
returns-then-total-saturating_mul-clause-holds c =
    let few : c.in-Ok.total < min (2 * c.args.size) (2 ^ 64 - 1) = omega arith in
    all_stay c.args.kept.items c.args.total c.args.chunk c.in-Ok.bytes c.requires c.in-Ok.ensures.bytes c.push_back.new.self.items c.in-Ok.total
    (record { chunk = c.args.chunk; bytes = c.in-Ok.bytes }) c.in_ok-push_back-in-Ok.ensures.items refl refl c.in-Ok.ensures.total c.args.size few

pub returns-then-total-saturating_mul-clause-stands : goal.returns-then-total-saturating_mul-clause-stands
returns-then-total-saturating_mul-clause-stands c =
    more_stands c.args.kept.items c.args.total c.args.chunk c.in-Ok.bytes c.requires c.in-Ok.ensures.bytes c.push_back.new.self.items c.in-Ok.total
    (record { chunk = c.args.chunk; bytes = c.in-Ok.bytes }) c.in_ok-push_back-in-Ok.ensures.items refl refl c.in-Ok.ensures.total

pub flush-requires : goal.flush-requires
flush-requires c =
    more_stands c.args.kept.items c.args.total c.args.chunk c.in-Ok.bytes c.requires c.in-Ok.ensures.bytes c.push_back.new.self.items c.in-Ok.total
    (record { chunk = c.args.chunk; bytes = c.in-Ok.bytes }) c.in_ok-push_back-in-Ok.ensures.items refl refl c.in-Ok.ensures.total

pub returns-in_ok-flush-in-Ok-clause-leaves : goal.returns-in_ok-flush-in-Ok-clause-leaves
returns-in_ok-flush-in-Ok-clause-leaves c =
    let many : min (2 * c.args.size) (2 ^ 64 - 1) ≤ c.in-Ok.total = omega arith in
    c.in_ok-flush-in-Ok.ensures.leaves
    ∙ some_leave c.args.kept.items c.args.total c.args.chunk c.in-Ok.bytes c.requires c.in-Ok.ensures.bytes c.push_back.new.self.items c.in-Ok.total
    (record { chunk = c.args.chunk; bytes = c.in-Ok.bytes }) c.in_ok-push_back-in-Ok.ensures.items refl refl c.in-Ok.ensures.total c.args.size many

pub returns-in_ok-flush-in-Ok-clause-holds : goal.returns-in_ok-flush-in-Ok-clause-holds
returns-in_ok-flush-in-Ok-clause-holds c =
    let many : min (2 * c.args.size) (2 ^ 64 - 1) ≤ c.in-Ok.total = omega arith in
    c.in_ok-flush-in-Ok.ensures.holds
    ∙ some_stay c.args.kept.items c.args.total c.args.chunk c.in-Ok.bytes c.requires c.in-Ok.ensures.bytes c.push_back.new.self.items c.in-Ok.total
    (record { chunk = c.args.chunk; bytes = c.in-Ok.bytes }) c.in_ok-push_back-in-Ok.ensures.items refl refl c.in-Ok.ensures.total c.args.size many

pub returns-then-total-saturating_mul-clause-fits : goal.returns-then-total-saturating_mul-clause-fits
returns-then-total-saturating_mul-clause-fits c = weights_are c.args.size c.args.kept.items c.args.total c.args.chunk c.requires ∙ c.in-Ok.ensures.fits

pub returns-in_ok-flush-in-Ok-clause-fits : goal.returns-in_ok-flush-in-Ok-clause-fits
returns-in_ok-flush-in-Ok-clause-fits c = weights_are c.args.size c.args.kept.items c.args.total c.args.chunk c.requires ∙ c.in-Ok.ensures.fits

pub returns-in-Err-clause-refused : goal.returns-in-Err-clause-refused
returns-in-Err-clause-refused c = subst (λ o. Refuses o c.in-Err.error) (sym (weights_are c.args.size c.args.kept.items c.args.total c.args.chunk c.requires)) c.in-Err.ensures.refused
