-- The date of a day, in the Gregorian calendar (ISO 8601), by `civil_from_days` of Howard Hinnant's
-- "chrono-Compatible Low-Level Date Algorithms". A year begins on 1 March there, so that a leap day
-- is the last day of its year, and 400 years have 146,097 days.
use Rattle.std.specs.Prelude.{ℕ, ◌+◌, ◌-◌, ◌*◌, ◌/◌, ◌%◌, nat_lt, List, [], ◌∷◌, ◌++◌, codes, decimal, if◌then◌else◌}
use Rattle.table_picture.specs.declared.date.Date.{Date}

-- days from 1 March of the year 0 to 1 January 1970
abbrev pub before_1970 : ℕ
before_1970 = 719468

-- which of the 400 years a day of them is in
abbrev pub year_of_cycle : ℕ → ℕ
year_of_cycle day = (day - day / 1460 + day / 36524 - day / 146096) / 365

-- which day of this year it is
abbrev pub day_of_year : ℕ → ℕ → ℕ
day_of_year day year = day - (365 * year + year / 4 - year / 100)

-- the month of a day of a year, counted from March
abbrev pub month_of_year : ℕ → ℕ
month_of_year day = (5 * day + 2) / 153

-- the date of a day of a year, of which months are counted from March: a year begins before its
-- January
abbrev pub date_in : ℕ → ℕ → ℕ → Date
date_in year month day = record {
  year = if nat_lt month 10 then year else year + 1;
  month = if nat_lt month 10 then month + 3 else month - 9;
  day = day - (153 * month + 2) / 5 + 1;
}

-- The date of a day of a year that begins in March.
abbrev pub date_by : ℕ → ℕ → Date
date_by year day = date_in year (month_of_year day) day

-- the date of a day that is counted from 1 March of the year 0
abbrev pub date_from : ℕ → Date
date_from days =
    date_by (400 * (days / 146097) + year_of_cycle (days % 146097))
    (day_of_year (days % 146097) (year_of_cycle (days % 146097)))

-- the same, counted from 1 January 1970
abbrev pub date_of : ℕ → Date
date_of days = date_from (days + before_1970)

-- the last two digits of a number
abbrev pub two_digits : ℕ → List ℕ
two_digits n = (48 + n / 10 % 10) ∷ (48 + n % 10) ∷ []

-- `2009-01-03`
unfoldable pub date_text : Date → List ℕ
date_text d =
    decimal d.year ++ (codes "-" ++ (two_digits d.month ++ (codes "-" ++ two_digits d.day)))
