-- The place of every refusal is below 2^32, operation by operation: at most as many records or nodes are walked as a set may have records.
-- Assumes nothing.
use mathlib.Core.Path.{◌≡◌, refl, subst}
use mathlib.Core.Bool.{Bool, true, false, not, ◌&&◌}
use mathlib.Core.List.{List, [], ◌∷◌}
use mathlib.Core.Option.{Option, none, some}
use Prim.Native.Nat.{ℕ, zero, suc, ◌+◌, ◌*◌, ◌<◌, ◌≤◌}
use native.Mathlib.Omega.{arith}
use native.Mathlib.Nat.{mul-le-mul, le_trans}
use lib.Dec.{eqb, leb, ltb}
use lib.IntN.{ℤ, pos, negsuc}
use lib.Signed.{le_z}
use lib.ListN.{length, get_or, take, length-map}
use borrow.Author.Tests.{not-false}
use Rattle.refusal.specs.Refused.{Answer, gives, refused, refuse_if, and_then, for_each, told_of}
use Rattle.refusal.proofs.Answers.{went_on, same-result}
use Rattle.limits.specs.declared.Caller.{Caller}
use Rattle.limits.specs.declared.Caller.TheVariants.{Bench}
use Rattle.limits.specs.Limits.{most_side, most_records, most_side_of, most_records_of, most_total_mass, most_node_mass, most_node_velocity, most_gravity, most_drag, most_steps, valid_mass, valid_gravity}
use Rattle.limits.proofs.Callers.{records-most}
use Rattle.spline.specs.Spline.{axis_weight, D}
use Rattle.particle.specs.declared.Particle.{Particle}
use Rattle.particle.specs.Layout.{record_length}
use Rattle.particle.specs.Record.{particle_of, read_answer, read_particle, lowest_velocity, lowest_affine, write_answer, write_particle, valid_velocities, valid_affines, valid_positions}
use Rattle.particles.specs.Set.{on_grid, checked_particle, set_from, set_of, record_at, record_count, too_many, set_answer, check_answer, valid_size, valid_length, records_of}
use Rattle.totals.specs.Totals.{totals_answer}
use Rattle.particles.proofs.Checks.{size-limits, length-limits}
use Rattle.particles.proofs.Accepted.{accepted-limits}
use Rattle.spline.specs.Answers.{weights_answer}
use Rattle.update.specs.Update.{breaks_mass, breaks_velocity, check_node, check_node_at, check_nodes, update_answer}
use Rattle.apic.specs.Step.{new_coordinate, along_x, along_y, Grids}
use Rattle.apic.specs.Limits.{SizeLimits, SetLimits}
use Rattle.gathering.specs.Gather.{too_fast, too_steep, off_grid, move_check, move_checks, gathered}
use Rattle.settings.specs.Settings.{edge_of, still, valid_edge}
use Rattle.entry.specs.declared.Buffers.{Buffers}
use Rattle.entry.specs.declared.Buffers.TheVariants.{Two, Three}
use Rattle.entry.specs.Checks.{are_long, both_within}
use Rattle.entry.specs.Entry.{checked_forces, begin_answer, entry_answer}
use Rattle.entry.proofs.Entry.{passed-checks, accepted}
use Rattle.transfer.specs.Transfer.{scatter_of, velocity_check, velocity_checks, checked_set, gather_answer}
use Rattle.adding.specs.Adding as adding
use Rattle.settings.specs.declared.Settings.{Settings}
use Rattle.simulation.specs.Step.{buffers_of, nodes_of, move_by, stepped_by, step_of, step_by, step_entry, step_from, step_after}
use Rattle.simulation.specs.Run.{run_from, run_by, run_entry, run_after}
use Rattle.simulation.proofs.Steps.{step-result}
use Rattle.simulation.proofs.Calls.{ready-step, ready-run}
use Rattle.bath_file.specs.declared.Header.{Header}
use Rattle.bath_file.specs.Layout.{header_length}
use Rattle.bath_file.specs.File as file
use Rattle.bath_file.proofs.Answers.{header-held}
use Rattle.store.specs.Names.{valid_name}
use Rattle.store.specs.Form.{most_file, place_count, valid_store, place_of, holds}
use Rattle.store.specs.Operations as store
use Rattle.coding.proofs.Coding.{Placed, accepts, refuses}

pub nowhere : 0 < 4294967296
nowhere = omega arith

module _ {A : Type 0} (b : Bool) (n : ℕ) where
  -- a check with a place, and one without
  check : (k : ℕ) (rest : Answer A) → k < 4294967296 → (b ≡ false → Placed rest) → Placed (refuse_if b n k rest)
  check k rest h f = go b f
    where
      go : (t : Bool) → (t ≡ false → Placed rest) → Placed (refuse_if t n k rest)
      go true f = refuses h
      go false f = f refl

  plain : (rest : Answer A) → (b ≡ false → Placed rest) → Placed (refuse_if b n 0 rest)
  plain rest f = check 0 rest nowhere f

next : {A B : Type 0} (a : Answer A) (f : A → Answer B) → Placed a → ((x : A) → a ≡ gives x → Placed (f x)) → Placed (and_then a f)
next (gives x) f h g = g x refl
next (refused n k) f (refuses h) g = refuses h

few : {n : ℕ} → n ≤ most_records → 0 + n < 4294967296
few h = omega arith

-- ---- records

module _ (index : ℕ) (h : index < 4294967296) where
  found : (p : Particle) → Placed (read_particle index p)
  unfolding read_particle
  found p =
      check (eqb p.mass 0) 4 index _ h (λ _. check (lowest_velocity p) 5 index _ h (λ _. check (lowest_affine p) 6 index _ h (λ _. accepts)))

  pub read : (bytes : List ℕ) → Placed (read_answer index bytes)
  unfolding read_answer
  read bytes = plain (not (eqb (length bytes) record_length)) 1 _ (λ _. found (particle_of bytes))

pub write : (p : Particle) (bytes : List ℕ) → Placed (write_answer p bytes)
unfolding write_answer write_particle
write p bytes =
    plain (not (eqb (length bytes) record_length)) 1 _
    (λ _.
    plain (not (valid_mass p.mass)) 4 _
    (λ _. plain (not (valid_velocities p)) 5 _ (λ _. plain (not (valid_affines p)) 6 _ (λ _. plain (not (valid_positions p)) 7 _ (λ _. accepts)))))

pub weights : (q : ℤ) → Placed (weights_answer q)
weights q = plain (not (le_z (negsuc 31) q && le_z q (pos 31))) 7 _ (λ _. accepts)

-- ---- sets

module _ (nx ny start : ℕ) (bytes : List ℕ) where
  particle-passes : (k least mass : ℕ) (p : Particle) → k < 4294967296 → Placed (checked_particle nx ny k least mass p)
  unfolding checked_particle
  particle-passes k least mass p h =
      check (not (on_grid nx ny p)) 7 k _ h (λ _. check (ltb p.identifier least) 8 k _ h (λ _. check (ltb most_total_mass (mass + p.mass)) 9 k _ h (λ _. accepts)))

  pub walk : (left k least mass : ℕ) → k + left < 4294967296 → Placed (set_from nx ny start bytes left k least mass)
  unfolding set_from
  walk zero k least mass h = accepts
  walk (suc left) k least mass h =
      next (read_answer k (record_at start bytes k)) _ (read k (omega arith) (record_at start bytes k))
      (λ p _.
      next (checked_particle nx ny k least mass p) _ (particle-passes k least mass p (omega arith))
      (λ q _.
      next (set_from nx ny start bytes left (suc k) (suc q.identifier) (mass + q.mass)) _ (walk left (suc k) (suc q.identifier) (mass + q.mass) (omega arith)) (λ _ _. accepts)))

module _ (caller : Caller) (nx ny : ℕ) (bytes : List ℕ) where
  pub set : Placed (set_answer caller nx ny bytes)
  set =
      plain (not (valid_size (most_side_of caller) nx ny)) 2 _
      (λ _.
      plain (not (valid_length (length bytes))) 1 _
      (λ e.
      plain (too_many caller (length bytes)) 3 _
      (λ _. walk nx ny 0 bytes (record_count bytes) 0 0 0 (few (length-limits (length bytes) (not-false (valid_length (length bytes)) e)).count))))

  pub counted : Placed (check_answer caller nx ny bytes)
  counted = next (set_answer caller nx ny bytes) _ set (λ _ _. accepts)

  pub totalled : Placed (totals_answer caller nx ny bytes)
  totalled = next (set_answer caller nx ny bytes) _ set (λ _ _. accepts)

-- ---- grids

each : (f : ℕ → Answer Unit) (k n : ℕ) → ((i : ℕ) → i < 4294967296 → Placed (f i)) → k + n < 4294967296 → Placed (for_each f k n)
each f k zero h m = accepts
each f k (suc n) h m = next (f k) _ (h k (omega arith)) (λ _ _. each f (suc k) n h (omega arith))

node : (D : ℕ) (gx gy : ℤ) (k M : ℕ) (px py : ℤ) → k < 4294967296 → Placed (check_node D gx gy k M px py)
unfolding check_node
node D gx gy k M px py h = check (breaks_mass M px py) 11 k _ h (λ _. check (breaks_velocity D gx gy M px py) 12 k _ h (λ _. accepts))

nodes-few : {nx ny : ℕ} → SizeLimits nx ny → 0 + nx * ny < 4294967296
nodes-few {nx} {ny} s = few (lt (nx * ny) (mul-le-mul s.x-most s.y-most))
  where
    lt : (n : ℕ) → n ≤ most_side * most_side → n ≤ most_records
    lt n h = omega arith

-- ---- the checks at entry

forces : (s : Settings) (rest : Answer Unit) → Placed rest → Placed (checked_forces s rest)
unfolding checked_forces
forces s rest h =
    plain (not (both_within most_gravity s.gx s.gy)) 10 _
    (λ _. plain (not (valid_edge s.edge)) 18 _ (λ _. plain (ltb most_drag s.drag) 19 _ (λ _. h)))

begin : (caller : Caller) (s : Settings) (buffers : Buffers) (steps bytes : ℕ) → Placed (begin_answer caller s buffers steps bytes)
unfolding begin_answer
begin caller s buffers steps bytes =
    plain (not (valid_size (most_side_of caller) s.nx s.ny)) 2 _
    (λ _.
    plain (not (valid_length bytes)) 1 _
    (λ _.
    plain (not (are_long (s.nx * s.ny) buffers)) 1 _
    (λ _. plain (too_many caller bytes) 3 _ (λ _. forces s _ (plain (ltb most_steps steps) 17 _ (λ _. accepts))))))

module _ (caller : Caller) (s : Settings) (buffers : Buffers) (steps : ℕ) (records : List ℕ) where
  pub entry : Placed (entry_answer caller s buffers steps records)
  unfolding entry_answer
  entry =
      next (begin_answer caller s buffers steps (length records)) _ (begin caller s buffers steps (length records))
      (λ _ e.
      walk s.nx s.ny 0 records (record_count records) 0 0 0
      (few (length-limits (length records) (passed-checks caller s buffers steps (length records) e).0.whole).count))

  few-entered : {ps : List Particle} → entry_answer caller s buffers steps records ≡ gives ps → SetLimits s.nx s.ny ps
  few-entered e = accepted-limits s.nx s.ny records (accepted caller s buffers steps records e).set

-- ---- update

module _ (caller : Caller) (s : Settings) (mass : List ℕ) (px py : List ℤ) where
  abbrev three : Buffers
  three = Three (length mass) (length px) (length py)

  pub update : Placed (update_answer caller s mass px py)
  unfolding update_answer check_nodes
  update =
      next (begin_answer caller s three 0 0) _ (begin caller s three 0 0)
      (λ _ e.
      each (check_node_at D s.gx s.gy mass px py) 0 (s.nx * s.ny) (λ i h. node D s.gx s.gy i (get_or mass i 0) (get_or px i (pos 0)) (get_or py i (pos 0)) h)
      (nodes-few (size-limits caller s.nx s.ny (passed-checks caller s three 0 0 e).0.size)))

-- ---- transfers

module _ (caller : Caller) (nx ny : ℕ) (records : List ℕ) (g : Grids) where
  abbrev lent : Buffers
  lent = Three (length g.mass) (length g.x) (length g.y)

  present : (gain : List ℕ) (k : ℕ) → k < 4294967296 → Placed (adding.check_node_at g gain k)
  unfolding adding.check_node
  present gain k h =
      check (not (adding.valid_present (get_or g.mass k 0) (get_or g.x k (pos 0)) (get_or g.y k (pos 0)))) 20 k _ h
      (λ _. check (ltb most_node_mass (get_or g.mass k 0 + get_or gain k 0)) 21 k _ h (λ _. accepts))

  pub added : Placed (adding.adding_answer caller nx ny records g)
  unfolding adding.adding_answer adding.added_grids adding.check_nodes
  added =
      next (entry_answer caller (still nx ny) lent 0 records) _ (entry caller (still nx ny) lent 0 records)
      (λ ps e.
      next (adding.check_nodes (nx * ny) g (scatter_of nx ny ps).mass) _
      (each (adding.check_node_at g (scatter_of nx ny ps).mass) 0 (nx * ny) (present (scatter_of nx ny ps).mass) (nodes-few (few-entered caller (still nx ny) lent 0 records e).sizes))
      (λ _ _. accepts))

moves : {A : Type 0} (nx ny : ℕ) (move : Particle → Particle) (k : ℕ) (ps : List Particle) (rest : Answer A) → k + length ps < 4294967296 → Placed rest → Placed (move_checks nx ny move k ps rest)
unfolding move_checks move_check
moves nx ny move k [] rest h r = r
moves nx ny move k (p ∷ ps) rest h r =
    let q = move p in
    check (too_fast q.vx q.vy) 13 k _ (omega arith)
    (λ _.
    check (too_steep q.bxx q.bxy q.byx q.byy) 14 k _ (omega arith)
    (λ _.
    check (off_grid nx ny (new_coordinate along_x p q.vx) (new_coordinate along_y p q.vy)) 15 k _ (omega arith)
    (λ _. moves nx ny move (suc k) ps rest (omega arith) r)))

module _ (caller : Caller) (nx ny : ℕ) (records : List ℕ) (ux uy : List ℤ) where
  abbrev buffers : Buffers
  buffers = Two (length ux) (length uy)

  velocities : SizeLimits nx ny → Placed (velocity_checks (nx * ny) ux uy)
  unfolding velocity_checks
  velocities v =
      each (velocity_check ux uy) 0 (nx * ny) (λ i h. check (not (both_within most_node_velocity (get_or ux i (pos 0)) (get_or uy i (pos 0)))) 12 i _ h (λ _. accepts)) (nodes-few v)

  ready : Placed (checked_set caller nx ny records ux uy)
  unfolding checked_set
  ready =
      next (entry_answer caller (still nx ny) buffers 0 records) _ (entry caller (still nx ny) buffers 0 records)
      (λ ps e. next (velocity_checks (nx * ny) ux uy) _ (velocities (few-entered caller (still nx ny) buffers 0 records e).sizes) (λ _ _. accepts))

  ready-few : {ps : List Particle} → checked_set caller nx ny records ux uy ≡ gives ps → length ps ≤ most_records
  unfolding checked_set
  ready-few e =
      let s = went_on (entry_answer caller (still nx ny) buffers 0 records) (λ ps. and_then (velocity_checks (nx * ny) ux uy) (λ _. gives ps)) e in
      let t = went_on (velocity_checks (nx * ny) ux uy) (λ _. gives s.0) s.2 in
      subst (λ l. length l ≤ most_records) (same-result t.2) (few-entered caller (still nx ny) buffers 0 records s.1).count

  pub gather : Placed (gather_answer caller nx ny records ux uy)
  gather =
      next (checked_set caller nx ny records ux uy) _ ready
      (λ ps e. moves nx ny (gathered axis_weight nx ny ux uy) 0 ps _ (few (ready-few e)) accepts)

-- what is told of an answer has its place
pub told : {A : Type 0} (a : Answer A) → Placed a → Placed (told_of a)
told a h = next a _ h (λ _ _. accepts)

-- ---- steps and runs

module _ (caller : Caller) (s : Settings) (records : List ℕ) (grids : Grids) where
  step-entry : Placed (step_entry caller s records grids)
  unfolding step_entry
  step-entry = entry caller s (buffers_of grids) 0 records

  run-entry : (steps : ℕ) → Placed (run_entry caller s steps records grids)
  unfolding run_entry
  run-entry steps = entry caller s (buffers_of grids) steps records

module _ (caller : Caller) (s : Settings) where
  one-step : (ps : List Particle) → length ps ≤ most_records → Placed (step_of s ps)
  unfolding step_by
  one-step ps h = moves s.nx s.ny (move_by axis_weight D s ps) 0 ps _ (few h) accepts

  same_count : (ps : List Particle) {qs : List Particle} → length ps ≤ most_records → step_of s ps ≡ gives qs → length qs ≤ most_records
  unfolding stepped_by
  same_count ps h e = subst (λ l. length l ≤ most_records) (step-result axis_weight D s ps e).1 (rw length-map h)

  pub step : (records : List ℕ) (grids : Grids) → Placed (step_after caller s records grids).answer
  unfolding step_after step_from
  step records grids = go (step_entry caller s records grids) refl (step-entry caller s records grids)
    where
      after : (ps : List Particle) (a : Answer (List Particle)) → step_of s ps ≡ a → Placed a → Placed (step_from s records ps).answer
      after ps (gives qs) e h = rw e accepts
      after ps (refused n k) e (refuses h) = rw e (refuses h)

      go : (a : Answer (List Particle)) → step_entry caller s records grids ≡ a → Placed a → Placed (step_after caller s records grids).answer
      go (gives ps) e h = rw e (after ps (step_of s ps) refl (one-step ps (ready-step caller s records grids e).limits.count))
      go (refused n k) e (refuses h) = rw e (refuses h)

  run-from : (n : ℕ) (records : List ℕ) (ps : List Particle) (grids : Grids) → length ps ≤ most_records → Placed (run_from s n records ps grids).answer.stop
  unfolding run_by
  run-from zero records ps grids h = accepts
  run-from (suc n) records ps grids h = go (λ qs. run-from n (records_of qs) qs (nodes_of s ps)) (step_of s ps) refl (one-step ps h)
    where
      go : ((qs : List Particle) → length qs ≤ most_records → Placed (run_from s n (records_of qs) qs (nodes_of s ps)).answer.stop) → (a : Answer (List Particle)) → step_of s ps ≡ a → Placed a → Placed (run_from s (suc n) records ps grids).answer.stop
      go further (gives qs) e p = rw e (further qs (same_count ps h e))
      go further (refused m k) e (refuses p) = rw e (refuses p)

  pub run : (steps : ℕ) (records : List ℕ) (grids : Grids) → Placed (run_after caller s steps records grids).answer.stop
  unfolding run_after
  run steps records grids = go (run_entry caller s steps records grids) refl (run-entry caller s records grids steps)
    where
      go : (a : Answer (List Particle)) → run_entry caller s steps records grids ≡ a → Placed a → Placed (run_after caller s steps records grids).answer.stop
      go (gives ps) e h = rw e (run-from steps records ps grids (ready-run caller s records steps grids e).limits.count)
      go (refused n k) e (refuses h) = rw e (refuses h)

-- ---- files

header : {A : Type 0} (caller : Caller) (h : Header) (rest : Answer A) → Placed rest → Placed (file.checked_header caller h rest)
unfolding file.checked_header
header caller h rest p =
    plain (not (valid_size (most_side_of caller) h.nx h.ny)) 2 _
    (λ _.
    plain (not (valid_gravity h.gx && valid_gravity h.gy)) 10 _
    (λ _.
    plain (not (valid_edge (edge_of h.kind h.width))) 18 _
    (λ _.
    plain (ltb most_drag h.drag) 19 _
    (λ _. plain (ltb (most_records_of caller) h.count) 3 _ (λ _. plain (ltb most_steps h.steps) 17 _ (λ _. p))))))

module _ (caller : Caller) (bytes : List ℕ) where
  header_read : Placed (file.header_answer caller bytes)
  unfolding file.header_answer
  header_read =
      plain (ltb (length bytes) header_length) 1 _
      (λ _.
      header caller (file.header_in (take header_length bytes)) _
      (plain (not (file.spare_is_zero (take header_length bytes))) 16 _ (λ _. accepts)))

  records-read : (h : Header) → h.count ≤ most_records → Placed (file.records_answer h bytes)
  unfolding file.records_answer
  records-read h c =
      plain (not (eqb (length bytes) (header_length + record_length * h.count))) 1 _
      (λ _. next (set_of h.nx h.ny header_length bytes h.count) _ (walk h.nx h.ny header_length bytes h.count 0 0 0 (few c)) (λ _ _. accepts))

  pub file-read : Placed (file.file_answer caller bytes)
  file-read = next (file.header_answer caller bytes) _ header_read (λ h e. records-read h (le_trans (header-held caller bytes e).valid.count-to (records-most caller)))

pub header-written : (h : Header) (bytes : List ℕ) → Placed (file.write_answer h bytes)
unfolding file.write_answer
header-written h bytes = plain (not (eqb (length bytes) header_length)) 1 _ (λ _. header Bench h _ accepts)

-- ---- stores

module _ {A : Type 0} (valid : Bool) (name : List ℕ) (rest : Answer A) where
  called : Placed rest → Placed (store.checked_call valid name rest)
  unfolding store.checked_call
  called h = plain (not valid) 1 _ (λ _. plain (not (valid_name name)) 22 rest (λ _. h))

module _ (bytes name : List ℕ) where
  pub kept : (caller : Caller) (bath : List ℕ) → Placed (store.keep_answer caller bytes name bath)
  unfolding store.keep_answer
  kept caller bath =
      called (valid_store bytes) name _
      (next (file.file_answer caller bath) _ (file-read caller bath) (λ _ _. plain (not (ltb (store.place_for bytes name) place_count)) 24 _ (λ _. accepts)))

  under : (found : Option (List ℕ)) → Placed (store.held_answer found)
  under none = refuses nowhere
  under (some bath) = accepts

  pub returned : (buffer : List ℕ) → Placed (store.length_of (store.return_answer bytes name buffer))
  unfolding store.return_answer
  returned buffer =
      next (store.return_answer bytes name buffer) _ (called (valid_store bytes && leb most_file (length buffer)) name _ (under (holds bytes name))) (λ _ _. accepts)

  pub forgotten : Placed (store.forget_answer bytes name)
  unfolding store.forget_answer
  forgotten = called (valid_store bytes) name _ (plain (not (ltb (place_of bytes name) place_count)) 23 _ (λ _. accepts))
