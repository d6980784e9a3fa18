-- A list that is cleared from its start on. Assumes nothing.
use Rattle.std.specs.Prelude.{◌≡◌, List, [], ◌∷◌, ◌++◌, ℕ, ◌+◌, ◌<◌, ◌≤◌, length, take, set, replicate}
use Rattle.std.proofs.Common.{sym, ap, ◌∙◌, le_antisymm, add-one, length-set, take-suc-set, take_all}
use Rattle.std.proofs.lemmas.List.{replicate-append-replicate}

-- the first k of the list are a, and the list is as long as it was
pub record Cleared {A : Type 0} (a : A) (l₀ l : List A) (k : ℕ) : Type 0 where
  pub long : length l ≡ length l₀
  pub within : k ≤ length l
  pub front : take k l ≡ replicate k a

pub clear-one : {A : Type 0} {a : A} {l₀ l : List A} {k : ℕ} → Cleared a l₀ l k → k < length l → Cleared a l₀ (set l k a) (k + 1)
clear-one {a} {l₀} {l} {k} c h =
    record {
      long = length-set l k a ∙ c.long;
      within = rw (length-set l k a, add-one k) h;
      front = ap (λ n. take n (set l k a)) (add-one k) ∙ take-suc-set l k a h ∙ ap (λ m. m ++ (a ∷ [])) c.front ∙ replicate-append-replicate k 1 a;
    }

pub clear-end : {A : Type 0} {a : A} {l₀ l : List A} {k : ℕ} → Cleared a l₀ l k → length l ≤ k → l ≡ replicate (length l₀) a
clear-end {a} {l₀} {l} {k} c h =
    sym (take_all k l h) ∙ c.front ∙ ap (λ n. replicate n a) (le_antisymm c.within h ∙ c.long)
