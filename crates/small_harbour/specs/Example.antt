-- What judging and the floor answer on the small harbour: what they can answer, and nothing else.
use Rattle.std.specs.Prelude.{◌≡◌, ℕ, true, ℤ, pos, negsuc, Ok, Err, Result}
use Rattle.measure.specs.declared.Grains.{Grains}
use Rattle.stepped.specs.Piecewise.{stepped_meaning}
use Rattle.curved.specs.Quadratic.{curved_meaning}
use Rattle.network.specs.declared.refusal.Refusal.{Refusal}
use Rattle.network.specs.declared.refusal.Refusal.TheVariants.{Overloaded}
use Rattle.network.specs.Refusals.{number_of}
use Rattle.network.specs.Judged.{Judged}
use Rattle.network.specs.Floored.{Floored}
use Rattle.pricing.specs.Outage.{FlooredWithout}
use Rattle.small_harbour.specs.Harbour.{line_name, harbour, dispatch, prices}

abbrev pub Answer : Type 0
Answer = Result Grains Refusal

abbrev pub grains : ℤ → Answer
grains z = Ok (record { 0 = z })

-- refused by that number
pub record RefusedBy (n : ℕ) (r : Answer) : Type 0 where
  pub refusal : Refusal
  pub is : r ≡ Err refusal
  pub number : number_of refusal ≡ n

-- what can be answered: every answer that is allowed is as P says, and there is one
pub record Answered (Allowed P : Answer → Type 0) : Type 0 where
  pub only : (r : Answer) → Allowed r → P r
  pub possible : (r : Answer) × P r × Allowed r

-- what judging the powers p₁ and p₂ and the angle θ can answer, at the tolerance E
abbrev pub Judges : ℕ → ℤ → ℤ → ℤ → (Answer → Type 0) → Type 0
Judges E p₁ p₂ θ = Answered (Judged stepped_meaning curved_meaning (harbour E true) (dispatch p₁ p₂ θ))

-- what the floor of the prices l₁, l₂, μ and ν can be, at the tolerance E, with the branch in service
abbrev pub Floors : ℕ → ℤ → ℤ → ℤ → ℤ → (Answer → Type 0) → Type 0
Floors E l₁ l₂ μ ν = Answered (Floored stepped_meaning curved_meaning (harbour E true) (prices l₁ l₂ μ ν))

-- what it can be with the branch out of service
abbrev pub FloorsWithout : ℕ → ℤ → ℤ → ℤ → ℤ → (Answer → Type 0) → Type 0
FloorsWithout E l₁ l₂ μ ν = Answered (FlooredWithout stepped_meaning curved_meaning (harbour E true) (prices l₁ l₂ μ ν) line_name)

pub record Example : Type 0 where
  pub even_share : Judges 0 (pos 600) (pos 400) (negsuc 59) (λ r. r ≡ grains (pos 24080))
  pub dearer : Judges 0 (pos 800) (pos 200) (negsuc 79) (λ r. r ≡ grains (pos 28020))
  pub uneven : Judges 0 (pos 801) (pos 199) (negsuc 79) (RefusedBy 12)
  pub tolerated : Judges 1 (pos 801) (pos 199) (negsuc 79) (λ r. r ≡ grains (pos 28040))
  pub heavy : Judges 0 (pos 900) (pos 100) (negsuc 89) (λ r. r ≡ Err (Overloaded 0))
  pub even_prices : Floors 0 (pos 30) (pos 30) (pos 0) (pos 0) (λ r. r ≡ grains (pos 24000))
  pub even_prices_tolerated : Floors 1 (pos 30) (pos 30) (pos 0) (pos 0) (λ r. r ≡ grains (pos 23940))
  pub uneven_prices : Floors 0 (pos 30) (pos 31) (pos 0) (pos 0) (λ r. r ≡ grains (negsuc 31975499))
  pub priced_angle : Floors 0 (pos 30) (pos 30) (pos 0) (pos 5) (λ r. r ≡ grains (negsuc 47975999))
  pub branch_out : FloorsWithout 0 (pos 20) (pos 31) (pos 0) (pos 0) (λ r. r ≡ grains (pos 30500))
