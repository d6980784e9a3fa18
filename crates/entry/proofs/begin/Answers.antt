-- `entry::begin`: the checks in their order. Assumes nothing.
use Rattle.std.proofs.Common.{◌≡◌, ℕ, ◌*◌, ◌/◌, ◌<◌, ◌≤◌, Bool, true, false, ltb, sym, ap, ◌∙◌, subst}
use borrow.Author.Tests.{le-ltb}
use Rattle.std.proofs.lemmas.Result.{err_from_is_err_and}
use Rattle.limits.specs.declared.Caller.{Caller}
use Rattle.limits.specs.Limits.{most_side_of, most_records_of}
use Rattle.particle.specs.Layout.{record_length}
use Rattle.particles.specs.Set.{valid_size, valid_length, too_many}
use Rattle.settings.specs.declared.Settings.{Settings}
use Rattle.entry.specs.declared.Buffers.{Buffers}
use Rattle.entry.specs.Checks.{are_long}
use Rattle.entry.proofs.Entry.{Passed, bad-size, bad-length, bad-lengths, bad-count, bad-forces, too_many_steps, begins}
use Rattle.entry.proofs.begin.Goals as goal

-- the size's test, by the caller's limit
sized : (caller : Caller) (nx ny : ℕ) {most : ℕ} {r b : Bool} → most ≡ most_side_of caller → r ≡ valid_size most nx ny → r ≡ b → valid_size (most_side_of caller) nx ny ≡ b
sized caller nx ny m e t = ap (λ m. valid_size m nx ny) (sym m) ∙ sym e ∙ t

few : (caller : Caller) (bytes : ℕ) {most : ℕ} → most ≡ most_records_of caller → bytes / record_length ≤ most → too_many caller bytes ≡ false
few caller bytes m h = ap (λ m. ltb m (bytes / record_length)) (sym m) ∙ le-ltb _ _ h

-- past the checks of sizes and lengths
past : (caller : Caller) (s : Settings) (buffers : Buffers) (steps bytes : ℕ) → valid_size (most_side_of caller) s.nx s.ny ≡ true → valid_length bytes ≡ true → are_long (s.nx * s.ny) buffers ≡ true → too_many caller bytes ≡ false → Passed caller s buffers steps bytes
past caller s buffers steps bytes p q r t = record { size = p; whole = q; long = r; few = t }

pub returns-then-not-size_is_valid : goal.returns-then-not-size_is_valid
returns-then-not-size_is_valid c =
    let a = c.args in
    sym (bad-size a.caller a.settings a.buffers a.steps a.bytes
    (sized a.caller a.settings.nx a.settings.ny c.most_side.ensures c.size_is_valid.ensures c.if-not-size_is_valid.true))

pub returns-then-not-length_is_valid : goal.returns-then-not-length_is_valid
returns-then-not-length_is_valid c =
    let a = c.args in
    sym (bad-length a.caller a.settings a.buffers a.steps a.bytes
    (sized a.caller a.settings.nx a.settings.ny c.most_side.ensures c.size_is_valid.ensures c.if-not-size_is_valid.false)
    (sym c.length_is_valid.ensures ∙ c.if-not-length_is_valid.true))

pub returns-then-not-are_long : goal.returns-then-not-are_long
returns-then-not-are_long c =
    let a = c.args in
    sym (bad-lengths a.caller a.settings a.buffers a.steps a.bytes
    (sized a.caller a.settings.nx a.settings.ny c.most_side.ensures c.size_is_valid.ensures c.if-not-size_is_valid.false)
    (sym c.length_is_valid.ensures ∙ c.if-not-length_is_valid.false)
    (sym c.are_long.ensures ∙ c.if-not-are_long.true))

pub returns-then-most_records-bytes : goal.returns-then-most_records-bytes
returns-then-most_records-bytes c =
    let a = c.args in
    sym (bad-count a.caller a.settings a.buffers a.steps a.bytes
    (sized a.caller a.settings.nx a.settings.ny c.most_side.ensures c.size_is_valid.ensures c.if-not-size_is_valid.false)
    (sym c.length_is_valid.ensures ∙ c.if-not-length_is_valid.false)
    (sym c.are_long.ensures ∙ c.if-not-are_long.false)
    (subst (λ m. m < a.bytes / record_length) c.most_records.ensures c.if-most_records-bytes.true))

pub returns-in_err-check_forces : goal.returns-in_err-check_forces
returns-in_err-check_forces c =
    let a = c.args in
    let p = err_from_is_err_and c.from_residual.result c.from_residual.ensures.1 in
    rw (p.1, p.2) (sym (bad-forces a.caller a.settings a.buffers a.steps a.bytes
    (past a.caller a.settings a.buffers a.steps a.bytes
    (sized a.caller a.settings.nx a.settings.ny c.most_side.ensures c.size_is_valid.ensures c.if-not-size_is_valid.false)
    (sym c.length_is_valid.ensures ∙ c.if-not-length_is_valid.false)
    (sym c.are_long.ensures ∙ c.if-not-are_long.false)
    (few a.caller a.bytes c.most_records.ensures c.if-most_records-bytes.false))
    (sym c.in_err-check_forces.ensures)))

pub returns-then-steps-gt-MOST_STEPS : goal.returns-then-steps-gt-MOST_STEPS
returns-then-steps-gt-MOST_STEPS c =
    let a = c.args in
    sym (too_many_steps a.caller a.settings a.buffers a.steps a.bytes
    (past a.caller a.settings a.buffers a.steps a.bytes
    (sized a.caller a.settings.nx a.settings.ny c.most_side.ensures c.size_is_valid.ensures c.if-not-size_is_valid.false)
    (sym c.length_is_valid.ensures ∙ c.if-not-length_is_valid.false)
    (sym c.are_long.ensures ∙ c.if-not-are_long.false)
    (few a.caller a.bytes c.most_records.ensures c.if-most_records-bytes.false))
    (sym c.in_ok-check_forces.ensures) c.if-steps-gt-MOST_STEPS.true)

pub returns : goal.returns
returns c =
    let a = c.args in
    sym (begins a.caller a.settings a.buffers a.steps a.bytes
    (past a.caller a.settings a.buffers a.steps a.bytes
    (sized a.caller a.settings.nx a.settings.ny c.most_side.ensures c.size_is_valid.ensures c.if-not-size_is_valid.false)
    (sym c.length_is_valid.ensures ∙ c.if-not-length_is_valid.false)
    (sym c.are_long.ensures ∙ c.if-not-are_long.false)
    (few a.caller a.bytes c.most_records.ensures c.if-most_records-bytes.false))
    (sym c.in_ok-check_forces.ensures) c.if-steps-gt-MOST_STEPS.false)
