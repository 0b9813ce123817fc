-- Worked examples: dates, computed over the definition, beside the calendar in words.
use Rattle.std.proofs.Common.{◌≡◌, ℕ, zero, suc, ◌+◌, ◌-◌, ◌%◌, ◌==◌, ◌&&◌, ◌||◌, not, Bool, true, false, cond, refl}
use Rattle.std.specs.Prelude.{codes}
use Rattle.std.specs.Fmt.{digits}
use Rattle.table_picture.specs.Date.{date_of, date_text}
use Rattle.table_picture.specs.declared.date.Date.{Date}

-- every fourth year, but of the centuries only every fourth
abbrev is_leap : ℕ → Bool
is_leap year = (year % 4 == 0) && (not (year % 100 == 0) || (year % 400 == 0))

-- thirty days have April, June, September and November
abbrev days_in : ℕ → ℕ → ℕ
days_in year month =
    cond (month == 2) (cond (is_leap year) 29 28)
    (cond ((month == 4) || ((month == 6) || ((month == 9) || (month == 11)))) 30 31)

abbrev is : Date → ℕ → ℕ → ℕ → Bool
is d year month day = (d.year == year) && ((d.month == month) && (d.day == day))

-- the first and the last day of n months, of which the first begins on this day
abbrev are : ℕ → ℕ → ℕ → ℕ → Bool
are zero year month days = true
are (suc n) year month days =
    is (date_of days) year month 1
    && (is (date_of (days + days_in year month - 1)) year month (days_in year month)
    && are n (cond (month == 12) (year + 1) year) (cond (month == 12) 1 (month + 1)) (days + days_in year month))

-- from January 1970 to the end of 2106, past the last second of 32 bits
to_2106 : are 1644 1970 1 0 ≡ true
to_2106 = refl

-- the first block's day, and a leap day of a century
genesis : date_text (date_of 14247) ≡ codes "2009-01-03"
unfolding date_text digits
genesis = refl

leap : date_text (date_of 11016) ≡ codes "2000-02-29"
unfolding date_text digits
leap = refl
