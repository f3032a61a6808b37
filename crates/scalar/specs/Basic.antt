-- Basic types under their names. 01, T: "basic u8 (0 bool, 1 int, 2 double, 3 long, 4 string, 5 raw, 6 void)".
use Rattle.std.specs.Prelude.{ℕ}

abbrev pub bool : ℕ
bool = 0

abbrev pub int : ℕ
int = 1

abbrev pub double : ℕ
double = 2

abbrev pub long : ℕ
long = 3

abbrev pub string : ℕ
string = 4

abbrev pub raw : ℕ
raw = 5

abbrev pub void : ℕ
void = 6

-- The largest number of a basic type.
abbrev pub last_basic : ℕ
last_basic = 6
