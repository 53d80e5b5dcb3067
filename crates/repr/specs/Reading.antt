-- What the code's answers say: readings of `Decode`. A cursor stands for the bytes from its place on.
use Rattle.std.specs.Prelude.{List, ℕ, take, drop, Result, Ok, Err}
use Rattle.nll_spec.specs.Syntax as syntax
use Rattle.nll_spec.specs.Decode.{Reading, refused, read}
use Rattle.repr.specs.declared.Cursor.{Cursor}
use Rattle.repr.specs.declared.BorrowKind.{BorrowKind}
use Rattle.repr.specs.declared.BorrowKind.TheVariants.{Mut, Shared}
use Rattle.repr.specs.declared.Variance.{Variance}
use Rattle.repr.specs.declared.Variance.TheVariants.{Co, Contra, In}
use Rattle.repr.specs.declared.Kind.{Kind}
use Rattle.repr.specs.declared.Kind.TheVariants as kinds
use Rattle.repr.specs.declared.Region.{Region}
use Rattle.repr.specs.declared.Region.TheVariants.{Free, Bound}
use Rattle.repr.specs.declared.StructParameter.{StructParameter}
use Rattle.repr.specs.declared.Path.{Path}
use Rattle.repr.specs.declared.refusal.Refusal.{Refusal}
use Rattle.repr.specs.Refusals.{number_of}

-- ---- The numbers and choices of the code, as `Syntax` has them

abbrev pub borrow_kind_of : BorrowKind → syntax.BorrowKind
borrow_kind_of Mut = syntax.Mut
borrow_kind_of Shared = syntax.Shared

abbrev pub variance_of : Variance → syntax.Variance
variance_of Co = syntax.Co
variance_of Contra = syntax.Contra
variance_of In = syntax.In

abbrev pub kind_of : Kind → syntax.Kind
kind_of kinds.Region = syntax.RegionKind
kind_of kinds.Type = syntax.TypeKind

abbrev pub region_of : Region → syntax.Region
region_of (Free r) = syntax.Free r.0
region_of (Bound b) = syntax.BoundRegion b

abbrev pub parameter_of : StructParameter → syntax.Param
parameter_of p = record { variance = variance_of p.variance; may_dangle = p.may_dangle; kind = kind_of p.kind }

-- a path of the record s
abbrev pub path_of : List ℕ → Path → syntax.Path
path_of s p = record { base = p.base.0; steps = take p.steps (drop p.from.at s) }

-- ---- Answers

abbrev pub rest : List ℕ → Cursor → List ℕ
rest s c = drop c.at s

-- a number or a flag stands for itself
abbrev pub itself : {A : Type 0} → A → A
itself x = x

-- What was read, as `of` has it, and the bytes that follow; or a refusal.
abbrev pub says : {A B : Type 0} → (A → B) → List ℕ → Result (A × Cursor) Refusal → Reading B
says of s (Ok r) = read (of r.0) (rest s r.1)
says of s (Err k) = refused (number_of k)

-- ---- Only where a reading ends

abbrev pub ended : {A : Type 0} → Reading A → Reading (Unit {0})
ended (refused k) = refused k
ended (read a over) = read tt over

abbrev pub end_says : List ℕ → Result Cursor Refusal → Reading (Unit {0})
end_says s (Ok next) = read tt (rest s next)
end_says s (Err k) = refused (number_of k)

-- so many bytes from a cursor on, and where they end
abbrev pub bytes_say : List ℕ → Cursor → ℕ → Result Cursor Refusal → Reading (List ℕ)
bytes_say s c n (Ok next) = read (take n (rest s c)) (rest s next)
bytes_say s c n (Err k) = refused (number_of k)
