-- An answer of documents 01 and 02: a result, or a number with a place. Each operation's `Result` is read as one, and its promise is an equation of these.
-- The place is the record, or for 11, 12, 20 and 21 the node, counted from 0, or 0 where there is none.
-- Assumes nothing.
use Rattle.std.specs.Prelude.{◌≡◌, ℕ, zero, suc, Bool, true, false, Result, Ok, Err}
use Rattle.refusal.specs.declared.Refusal.{Refusal}
use Rattle.refusal.specs.declared.Refusal.TheVariants.{Length, GridSize, Count, Mass, Velocity, Affine, Position, Identifier, TotalMass, Gravity, NodeMass, NodeVelocity, NewVelocity, NewAffine, NewPosition, SpareBits, Steps, Edge, Drag, PresentNode, AddedMass, Name, NotHeld, FullStore}

pub data Answer (A : Type 0) : Type 0 where
  gives : A → Answer A
  refused : ℕ → ℕ → Answer A

abbrev pub number : Refusal → ℕ
number Length = 1
number GridSize = 2
number Count = 3
number (Mass k) = 4
number (Velocity k) = 5
number (Affine k) = 6
number (Position k) = 7
number (Identifier k) = 8
number (TotalMass k) = 9
number Gravity = 10
number (NodeMass k) = 11
number (NodeVelocity k) = 12
number (NewVelocity k) = 13
number (NewAffine k) = 14
number (NewPosition k) = 15
number SpareBits = 16
number Steps = 17
number Edge = 18
number Drag = 19
number (PresentNode k) = 20
number (AddedMass k) = 21
number Name = 22
number NotHeld = 23
number FullStore = 24

abbrev pub place : Refusal → ℕ
place Length = 0
place GridSize = 0
place Count = 0
place (Mass k) = k
place (Velocity k) = k
place (Affine k) = k
place (Position k) = k
place (Identifier k) = k
place (TotalMass k) = k
place Gravity = 0
place (NodeMass k) = k
place (NodeVelocity k) = k
place (NewVelocity k) = k
place (NewAffine k) = k
place (NewPosition k) = k
place SpareBits = 0
place Steps = 0
place Edge = 0
place Drag = 0
place (PresentNode k) = k
place (AddedMass k) = k
place Name = 0
place NotHeld = 0
place FullStore = 0

-- a refusal as these documents tell it
abbrev pub refused_by : {A : Type 0} → Refusal → Answer A
refused_by e = refused (number e) (place e)

-- what a call's result tells
abbrev pub told : {A : Type 0} → Result A Refusal → Answer A
told (Ok a) = gives a
told (Err e) = refused_by e

-- one check of a list: refused with this number and place where it fails, and else as the rest of the list says
abbrev pub refuse_if : {A : Type 0} → Bool → ℕ → ℕ → Answer A → Answer A
refuse_if true n k rest = refused n k
refuse_if false n k rest = rest

-- an answer that goes on where there is a result
abbrev pub and_then : {A B : Type 0} → Answer A → (A → Answer B) → Answer B
and_then (gives a) next = next a
and_then (refused n k) next = refused n k

-- an answer's two cases
abbrev pub either : {A B : Type 0} → Answer A → (A → B) → (ℕ → ℕ → B) → B
either (gives a) accept refuse = accept a
either (refused n k) accept refuse = refuse n k

-- it is a result
abbrev pub accepted : {A : Type 0} → Answer A → Bool
accepted a = either a (λ _. true) (λ n k. false)

-- nothing is refused, and there is no value to tell
abbrev pub done : Answer Unit
done = gives tt

-- "for each" place from k on, n of them: the lowest place comes first
abbrev pub for_each : (ℕ → Answer Unit) → ℕ → ℕ → Answer Unit
for_each check k zero = done
for_each check k (suc n) = and_then (check k) (λ _. for_each check (suc k) n)

-- an answer without its value
abbrev pub told_of : {A : Type 0} → Answer A → Answer Unit
told_of a = and_then a (λ _. done)

-- what a call tells, and what it leaves in the buffers that it may write: what is made of its result, or, refused, what they held
pub record Leaves {A B : Type 0} (a : Answer A) (new : A → B) (old : B) (told : Answer Unit) (left : B) : Type 0 where
  pub answer : told ≡ told_of a
  pub left_is : left ≡ either a new (λ n k. old)

-- the same of one buffer whose new contents do not depend on the result
abbrev pub kept_unless : {A B : Type 0} → Answer A → B → B → B
kept_unless a new old = either a (λ _. new) (λ n k. old)
