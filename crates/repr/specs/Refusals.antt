-- The refusals' numbers.
use Rattle.std.specs.Prelude.{ℕ}
use Rattle.repr.specs.declared.refusal.Refusal.{Refusal}
use Rattle.repr.specs.declared.refusal.Refusal.TheVariants.{Version, Length, Form, Range, Size, Name, Arguments, Path, Shape, Room}

abbrev pub number_of : Refusal → ℕ
number_of Version = 1
number_of Length = 2
number_of Form = 3
number_of Range = 4
number_of Size = 5
number_of Name = 6
number_of Arguments = 7
number_of Path = 8
number_of Shape = 9
number_of Room = 10
