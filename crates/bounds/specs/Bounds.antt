-- What reading an interval gives.
use Rattle.std.specs.Prelude.{◌≡◌, true, false, ◌&&◌, List, ℕ, ◌+◌, ◌*◌, ◌≤◌, eqb, drop, is_none, Option, unwrap_or, if◌then◌else◌}
use Prim.Native.Char.{code}
use Rattle.std.specs.Borrow.{Bor}
use Rattle.pattern.specs.Parts.{Bounds, between, at_least}
use Rattle.pattern.specs.Grammar.{peek, bound, is_digit, digit_more, read_bound, Interval, interval, no_interval}
use Rattle.places.specs.Reads.{Reads}
use Rattle.bounds.specs.declared.IntervalRead.{IntervalRead}

-- the bounds of an interval as the rules have them
abbrev pub upto : ℕ → Option ℕ → Bounds
upto lower upper = record { lower = lower; upper = unwrap_or upper 0; endless = is_none upper }

abbrev pub bounds_of : IntervalRead → Bounds
bounds_of i = upto i.lower i.upper

-- value' and rest are value and text with one digit more, where there is one
pub record OneDigitMore (value : ℕ) (text : List ℕ) (value' : ℕ) (rest : List ℕ) : Type 0 where
  pub same : bound value' rest ≡ digit_more (bound value text)
  pub small : value' ≤ value * 10 + 9

-- the bound of the rules, which begins with a digit
pub record IsBound (text : List ℕ) (value : ℕ) (rest : List ℕ) : Type 0 where
  pub digit : is_digit (peek text) ≡ true
  pub same : bound value rest ≡ read_bound text
  pub small : value ≤ 999

abbrev pub ReadsBound : List ℕ → Option (ℕ × Bor (List ℕ)) → Type 0
ReadsBound text r = Reads r (is_digit (peek text) ≡ false) (IsBound text)

-- what the rules read after the `,` of an interval, whatever its lower bound is
abbrev pub ends : List ℕ → ℕ → Interval
ends text lower =
    let n = read_bound text in
    if eqb (peek text) (code "}") then interval (at_least lower) (drop 1 text)
    else if is_digit (peek text) && eqb (peek n.rest) (code "}") then interval (between lower n.value) (drop 1 n.rest)
    else no_interval

abbrev pub ReadsUpper : List ℕ → Option (Option ℕ × Bor (List ℕ)) → Type 0
ReadsUpper text r = (lower : ℕ) → Reads r (ends text lower ≡ no_interval) (λ upper rest. ends text lower ≡ interval (upto lower upper) rest)

-- the result stands for the interval that the rules read, I
abbrev pub ReadsInterval : Interval → Option (IntervalRead × Bor (List ℕ)) → Type 0
ReadsInterval I r = Reads r (I ≡ no_interval) (λ i rest. I ≡ interval (bounds_of i) rest)
