-- The lines of document 01's "The program", with document 02's marks. Words and numbers of a line have a space between them, and
-- every line ends with a line feed. Assumes nothing.
use Rattle.std.specs.Prelude.{ℕ, List, [], ◌∷◌, ◌++◌}
use Rattle.particle.specs.declared.Particle.{Particle}
use Rattle.totals.specs.declared.Totals.{Totals}
use Rattle.text.specs.Decimal.{bytes_of, space, line_feed, decimal, signed}

abbrev pub line : List (List ℕ) → List ℕ
line [] = line_feed ∷ []
line (w ∷ []) = w ++ (line_feed ∷ [])
line (w ∷ v ∷ ws) = w ++ (space ∷ line (v ∷ ws))

-- `refused R at P`
unfoldable pub refused_line : ℕ → ℕ → List ℕ
refused_line number place = line (bytes_of "refused" ∷ decimal number ∷ bytes_of "at" ∷ decimal place ∷ [])

-- completed steps, refusal (0 for none) and place
unfoldable pub done_line : ℕ → ℕ → ℕ → List ℕ
done_line completed number place =
    line (bytes_of "done" ∷ decimal completed ∷ bytes_of "refusal" ∷ decimal number ∷ bytes_of "at" ∷ decimal place ∷ [])

-- the totals
unfoldable pub totals_line : Totals → List ℕ
totals_line t =
    line
    (bytes_of "mass"
    ∷ signed t.mass
    ∷ bytes_of "px"
    ∷ signed t.px
    ∷ bytes_of "py"
    ∷ signed t.py
    ∷ bytes_of "spin"
    ∷ signed t.spin
    ∷ bytes_of "motion"
    ∷ signed t.motion
    ∷ bytes_of "marks"
    ∷ signed t.marks
    ∷ [])

-- a record: identifier, mass, x, y, vx, vy, Bxx, Bxy, Byx, Byy, marks
unfoldable pub particle_line : Particle → List ℕ
particle_line p =
    line
    (decimal p.identifier
    ∷ decimal p.mass
    ∷ decimal p.x
    ∷ decimal p.y
    ∷ signed p.vx
    ∷ signed p.vy
    ∷ signed p.bxx
    ∷ signed p.bxy
    ∷ signed p.byx
    ∷ signed p.byy
    ∷ decimal p.marks
    ∷ [])

unfoldable pub particle_lines : List Particle → List ℕ
particle_lines [] = []
particle_lines (p ∷ ps) = particle_line p ++ particle_lines ps
