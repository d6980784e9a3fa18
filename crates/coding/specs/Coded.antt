-- Answers as one number, and values through the caller's array: what a program in another language sees after a call.
-- Assumes nothing.
use Rattle.std.specs.Prelude.{◌≡◌, ℕ, ◌+◌, ◌*◌}
use Rattle.refusal.specs.Refused.{Answer, gives, refused, either}

-- 0 where there is a result, and else the refusal's number times 2^32, plus its place
abbrev pub coded : {A : Type 0} → Answer A → ℕ
coded (gives a) = 0
coded (refused n k) = n * 4294967296 + k

-- a call that hands values back: the caller's array or number then has those of the result; refused, it is as it was
pub record Gives {A B : Type 0} (a : Answer A) (values : A → B) (out : B) (told : ℕ) (out' : B) : Type 0 where
  pub answer : told ≡ coded a
  pub values-are : out' ≡ either a values (λ n k. out)

-- a call without values: the operation's own promise, which says what is told, and the number of what is told
pub record Tells (Promise : Answer Unit → Type 0) (number : ℕ) : Type 0 where
  pub told : Answer Unit
  pub promise : Promise told
  pub coded-is : number ≡ coded told
