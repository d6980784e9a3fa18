-- What the caller sees of a file that was accepted, and of a refused one.
--     lent, given_back       the part behind the header as it is lent, and the file with other records there
--     text-by, prints        what the caller sees, by the file's answer
--     text-within            the text is within its buffer
--     file-sizes, file-long, report-ready
--                            an accepted file can be run, and the records that the run leaves can be reported
--     accepted-prints        then the caller sees what the definitions say
-- Assumes nothing.
use Prim.Native.Nat.{ℕ, ◌-◌, ◌≤◌}
use native.Mathlib.Nat.{le_trans}
use native.Mathlib.Omega.{arith}
use mathlib.Core.Path.{◌≡◌, refl, sym, ap, ap₂, subst, ◌∙◌}
use mathlib.Core.Bool.{false}
use mathlib.Core.List.{List, ◌++◌, append-nil}
use lib.IntN.{ℤ, pos}
use lib.ListN.{length, take, drop, length-append, length-drop, length-replicate, drop_of_length-le}
use lib.Seq.{length-take-le, take_all, drop_at}
use Rattle.std.specs.Prelude.{Result}
use Rattle.refusal.specs.Refused.{Answer, either}
use Rattle.limits.specs.declared.Caller.TheVariants.{Bench}
use Rattle.apic.specs.Limits.{SizeLimits}
use Rattle.particles.proofs.Checks.{size-limits, entered}
use Rattle.simulation.specs.declared.Stop.{Stop}
use Rattle.apic.specs.Step.{Grids, grids_of}
use Rattle.simulation.specs.Step.{Sees}
use Rattle.simulation.specs.Run.{told_ran}
use Rattle.bath_file.specs.declared.Header.{Header}
use Rattle.bath_file.specs.Layout.{header_length}
use Rattle.bath_file.specs.File.{file_answer}
use Rattle.bath_file.proofs.Answers.{header-held}
use Rattle.bath_file.proofs.Records.{file-held}
use Rattle.report.specs.Lines.{refused_line}
use Rattle.file_run.specs.FileRun.{settings_for, node_count, first_nodes, with_first, run_first}
use Rattle.file_run.proofs.FirstNodes.{nodes-most}
use Rattle.run_report.specs.RunReport.{report_of}
use Rattle.run_report.specs.Internal.{Reportable, Begins}
use Rattle.program.specs.declared.Printed.{Printed}
use Rattle.program.specs.Program.{records_in, run_of, zero_grids, run_report, program_text, is_refused, printed, text_after, file_after, grids_after}
use Rattle.program.specs.Laws.{SameLengths}
use Rattle.program.specs.Internal.{AcceptedFile, Prints}
use Rattle.program.proofs.Grids.{any-grids}
use Rattle.program.proofs.Kept.{Held, kept-totals, run-kept}

-- ---- the part behind the header

-- as it is lent
abbrev lent : List ℕ → List ℕ
lent bytes = take (length bytes - header_length) (drop header_length bytes)

-- the file with other records there, as the part comes back
abbrev given_back : List ℕ → List ℕ → List ℕ
given_back bytes records = take header_length bytes ++ (records ++ drop (length bytes - header_length) (drop header_length bytes))

lent-all : (bytes : List ℕ) → lent bytes ≡ records_in bytes
lent-all bytes = take_all (length bytes - header_length) (drop header_length bytes) (omega (arith, length-drop header_length bytes))

module _ (bytes records : List ℕ) where
  back_is : given_back bytes records ≡ take header_length bytes ++ records
  back_is =
      let none = drop_of_length-le (drop header_length bytes) {i = length bytes - header_length} (omega (arith, length-drop header_length bytes)) in
      ap (λ r. take header_length bytes ++ r) (ap (λ r. records ++ r) none ∙ append-nil records)

  module _ (long : header_length ≤ length bytes) where
    pub back_long : header_length ≤ length (given_back bytes records)
    back_long =
        let rest = records ++ drop (length bytes - header_length) (drop header_length bytes) in
        omega (arith, length-append (take header_length bytes) rest, length-take-le header_length bytes long)

    lent_back : lent (given_back bytes records) ≡ records
    lent_back =
        lent-all (given_back bytes records)
        ∙ ap records_in back_is
        ∙ drop_at (take header_length bytes) records header_length (length-take-le header_length bytes long)

-- ---- what the caller sees, by the file's answer

module _ (bytes : List ℕ) where
  abbrev text_by : Answer Header → List ℕ
  text_by f = either f (run_report bytes) refused_line

  abbrev file_by : Answer Header → List ℕ
  file_by f = either f (λ h. take header_length bytes ++ (run_of h bytes (zero_grids h)).records) (λ number place. bytes)

  abbrev grids_by : Grids → Answer Header → Grids
  grids_by grids f = either f (λ h. with_first (node_count h) (run_of h bytes (first_nodes (node_count h) grids)).grids grids) (λ number place. grids)

  module _ {f : Answer Header} (e : file_answer Bench bytes ≡ f) where
    pub text-by : program_text bytes ≡ text_by f
    unfolding program_text
    text-by = ap text_by e

    module _ {told : Printed} (r : told.refused ≡ is_refused f) where
      pub prints :
          {content text text' file : List ℕ} {grids nodes : Grids} →
          Begins content text told.length text' →
          content ≡ text_by f →
          file ≡ file_by f →
          nodes ≡ grids_by grids f →
          Prints bytes grids text told file nodes text'
      unfolding printed text_after file_after grids_after
      prints {text = text} {grids = grids} b t l g =
          let same = t ∙ sym text-by in
          record {
            answer = ap₂ (λ n b. record { length = n; refused = b }) (b.long ∙ ap length same) (r ∙ ap is_refused (sym e));
            buffer = b.buffer ∙ ap (λ t. t ++ drop (length t) text) same;
            file = l ∙ ap file_by (sym e);
            nodes = g ∙ ap (grids_by grids) (sym e);
          }

  -- the text is no longer than the buffer that it was put into
  pub text-within : (text : List ℕ) {told : Printed} {text' : List ℕ} → told ≡ printed bytes → text' ≡ text_after bytes text → told.length ≤ length text'
  unfolding printed text_after
  text-within text e b =
      let size = length (program_text bytes) in
      omega (arith, ap (λ p. p.length) e, ap length b, length-append (program_text bytes) (drop size text))

-- ---- a file that was accepted

module _ {h : Header} {bytes mass : List ℕ} {x y : List ℤ} {text : List ℕ} (a : AcceptedFile h bytes mass x y text) where
  pub file-sizes : SizeLimits h.nx h.ny
  file-sizes = size-limits Bench h.nx h.ny (header-held Bench bytes (file-held Bench bytes h a.file).header).valid.size

  pub file-long : header_length ≤ length bytes
  file-long = (header-held Bench bytes (file-held Bench bytes h a.file).header).long

  first-lengths : SameLengths (first_nodes (node_count h) (grids_of mass x y)) (zero_grids h)
  first-lengths =
      let most = nodes-most file-sizes in
      record {
        mass = length-take-le (node_count h) mass (le_trans most a.grids.masses) ∙ sym (length-replicate (node_count h) 0);
        x = length-take-le (node_count h) x (le_trans most a.grids.x-velocities) ∙ sym (length-replicate (node_count h) (pos 0));
        y = length-take-le (node_count h) y (le_trans most a.grids.y-velocities) ∙ sym (length-replicate (node_count h) (pos 0));
      }

  module _ (r : Result ℕ Stop) {records mass' : List ℕ} {x' y' : List ℤ} (lends : Sees (run_first h (lent bytes) (grids_of mass x y)) (told_ran r) records mass' x' y') where
    ran : Sees (run_first h (records_in bytes) (grids_of mass x y)) (told_ran r) records mass' x' y'
    ran = rw (lent-all bytes) at lends

    left : Held h.nx h.ny records
    left =
        let before = file-held Bench bytes h a.file in
        let held : Held h.nx h.ny (records_in bytes) = record { particles = before.particles; set = before.set } in
        rw ran.records (run-kept (settings_for h) h.steps (records_in bytes) (first_nodes (node_count h) (grids_of mass x y)) held)

    pub report-ready : Reportable h (lent (given_back bytes records)) text
    report-ready =
        subst (λ l. Reportable h l text) (sym (lent_back bytes records file-long))
        (record { totals = kept-totals left; whole = (entered Bench h.nx h.ny records left.set).whole; room = a.room })

    module _ {n : ℕ} {text' : List ℕ} (b : Begins (report_of (told_ran r) (lent (given_back bytes records))) text n text') where
      pub accepted-prints : Prints bytes (grids_of mass x y) text (record { length = n; refused = false }) (given_back bytes records) (grids_of mass' x' y') text'
      accepted-prints =
          let grids = grids_of mass x y in
          let law = any-grids Bench (settings_for h) h.steps (records_in bytes) (first_nodes (node_count h) grids) (zero_grids h) first-lengths in
          prints bytes a.file refl b
          (ap₂ report_of (ran.answer ∙ law.0) (lent_back bytes records file-long ∙ ran.records ∙ law.1))
          (back_is bytes records ∙ ap (λ l. take header_length bytes ++ l) (ran.records ∙ law.1))
          (ap₂ (λ m u. grids_of m u y') ran.masses ran.x-velocities ∙ ap (grids_of _ _) ran.y-velocities)
