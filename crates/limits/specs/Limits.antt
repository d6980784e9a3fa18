-- The limits of document 01 ("Units" and "Records") and of document 02 by name, and the tests for them.
--     least_side, most_side         nodes along an axis; the most are the bench's, and so are most_records
--     least_mass, most_mass, most_velocity, most_affine, most_position     the numbers of one particle
--     most_records, most_total_mass  a set of them
--     most_node_mass, most_node_velocity     a node
--     most_present_momentum         a node that is added to, for each unit of its mass
--     most_gravity, most_steps      what a run is asked for
--     least_width, most_width, most_drag     the edge's band, and drag
--     most_page_side, most_page_records      the lesson page
--     most_side_of, most_records_of, CallerLimits     by who calls
--     between, isℤ, valid..       a number is within its limits
-- Assumes nothing.
use Rattle.std.specs.Prelude.{ℕ, ◌^◌, ◌≤◌, Bool, ◌&&◌, leb, ℤ, pos, neg_ℤ}
use Rattle.std.specs.Int.Signed.{le_z}
use Rattle.limits.specs.declared.Caller.{Caller}
use Rattle.limits.specs.declared.Caller.TheVariants.{Bench, Page}

abbrev pub least_side : ℕ
least_side = 4

abbrev pub most_side : ℕ
most_side = 48

abbrev pub least_mass : ℕ
least_mass = 1

abbrev pub most_mass : ℕ
most_mass = 1023

abbrev pub most_velocity : ℕ
most_velocity = 63

abbrev pub most_affine : ℕ
most_affine = 2047

abbrev pub most_position : ℕ
most_position = 4095

abbrev pub most_records : ℕ
most_records = 4096

abbrev pub most_total_mass : ℕ
most_total_mass = 131072

abbrev pub most_node_mass : ℕ
most_node_mass = 2 ^ 43

abbrev pub most_node_velocity : ℕ
most_node_velocity = 131072

abbrev pub most_present_momentum : ℕ
most_present_momentum = 457536

abbrev pub most_gravity : ℕ
most_gravity = 4096

abbrev pub most_steps : ℕ
most_steps = 10000

abbrev pub least_width : ℕ
least_width = 1

abbrev pub most_width : ℕ
most_width = 3

abbrev pub most_drag : ℕ
most_drag = 255

-- document 02, Paper 9: "at most 512 records and 16 nodes each way"
abbrev pub most_page_side : ℕ
most_page_side = 16

abbrev pub most_page_records : ℕ
most_page_records = 512

abbrev pub most_side_of : Caller → ℕ
most_side_of Bench = most_side
most_side_of Page = most_page_side

abbrev pub most_records_of : Caller → ℕ
most_records_of Bench = most_records
most_records_of Page = most_page_records

-- a bath of nx by ny nodes and so many records is within a caller's limits
pub record CallerLimits (caller : Caller) (nx ny records : ℕ) : Type 0 where
  pub x-within : nx ≤ most_side_of caller
  pub y-within : ny ≤ most_side_of caller
  pub records-within : records ≤ most_records_of caller

abbrev pub between : ℤ → ℤ → ℤ → Bool
between low high z = le_z low z && le_z z high

abbrev pub isℤ : ℤ → ℤ → Bool
isℤ k z = between k k z

-- −most to most
abbrev pub within : ℕ → ℤ → Bool
within most z = between (neg_ℤ (pos most)) (pos most) z

abbrev pub valid_mass : ℕ → Bool
valid_mass m = leb least_mass m && leb m most_mass

abbrev pub valid_velocity : ℤ → Bool
valid_velocity v = within most_velocity v

abbrev pub valid_affine : ℤ → Bool
valid_affine b = within most_affine b

abbrev pub valid_position : ℕ → Bool
valid_position a = leb a most_position

abbrev pub valid_gravity : ℤ → Bool
valid_gravity g = within most_gravity g

abbrev pub valid_width : ℕ → Bool
valid_width w = leb least_width w && leb w most_width
