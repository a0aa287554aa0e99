-- Readers of numbers, locals, types, expressions and cells.
use Rattle.std.specs.Prelude.{ℕ, zero, suc, ◌-◌, ◌^◌, ◌==◌, nat_lt, pos, negsuc, true, false, if◌then◌else◌, List, [], ◌∷◌, length, take, drop, codes, Ok, Err}
use Rattle.std.specs.Char.{is_ascii_digit}
use Rattle.std.specs.List.{prefix_len}
use Rattle.c_syntax.specs.declared.kind.CType.{CType}
use Rattle.c_syntax.specs.declared.kind.CType.TheVariants as kind
use Rattle.c_syntax.specs.declared.expr.COp.{COp}
use Rattle.c_syntax.specs.declared.expr.COp.TheVariants as op
use Rattle.pl_readers.specs.Bytes.{is, word, value_from}
use Rattle.pl_readers.specs.Bytes as bytes
use Rattle.pl_readers.specs.Reader.{Reader, next, either, nothing, mapped, repeat}
use Rattle.c_forms.specs.declared.word.Number.{Number}
use Rattle.c_forms.specs.declared.word.Number.TheVariants as number
use Rattle.c_forms.specs.declared.word.Local.{Local}
use Rattle.c_forms.specs.Reading.{after, ended_by, both, just}
use Rattle.c_forms.specs.Names.{name, name_line}
use Rattle.c_forms.specs.Tree as t
use Rattle.c_forms.specs.Tree.{Name, Expr, Cell}

-- ---- numbers and locals

-- decimal digits without a leading zero
unfoldable pub numeral : Reader ℕ (List ℕ)
numeral [] = Err (record { is_deep = false; left = 0 })
numeral (c ∷ cs) =
    if c == 48 then Ok (48 ∷ [], cs)
    else if is_ascii_digit c then Ok (take (prefix_len is_ascii_digit (c ∷ cs)) (c ∷ cs), drop (prefix_len is_ascii_digit (c ∷ cs)) (c ∷ cs))
    else Err (record { is_deep = false; left = suc (length cs) })

-- the number that digits spell
abbrev pub number_of : List ℕ → Number
number_of digits = if nat_lt (value_from 0 digits) (2 ^ 32) then number.Small (value_from 0 digits) else number.Long digits

-- a number
unfoldable pub decimal_number : Reader ℕ Number
decimal_number = mapped number_of numeral

-- a local behind its `v_`
unfoldable pub local_tail : Reader ℕ Local
local_tail = mapped (λ p. record { name = p.0; number = p.1 }) (both name_line decimal_number)

-- a local
unfoldable pub local : Reader ℕ Local
local = after (codes "v_") local_tail

-- ---- types

-- `int64_t` or a pointer to one, behind the `i`
unfoldable pub i64_tail : Reader ℕ CType
i64_tail = after (codes "nt64_t ") (either (is 42) (just kind.PtrI64 (codes "*")) (nothing kind.I64))

-- `bool` or a pointer to one
unfoldable pub bool_type : Reader ℕ CType
bool_type = after (codes "bool ") (either (is 42) (just kind.PtrBool (codes "*")) (nothing kind.Bool))

-- a pointer to a structure or a lock
unfoldable pub struct_type : Reader ℕ CType
struct_type = after (codes "struct ") (either (is 115) (mapped kind.PtrStruct (after (codes "s_") (ended_by name (codes " *")))) (just kind.PtrLock (codes "p_lock *")))

-- a type but `void`, `int64_t` and pointers to that
unfoldable pub other_type : Reader ℕ CType
other_type = either (is 98) bool_type (either (is 112) (just kind.PtrAtomic (codes "p_atomic *")) struct_type)

-- a type but `void`
unfoldable pub shown_type : Reader ℕ CType
shown_type = either (is 105) (after (codes "i") i64_tail) other_type

-- a type
unfoldable pub any_type : Reader ℕ CType
any_type = either (is 118) (just kind.Void (codes "void ")) shown_type

-- ---- expressions

-- a comparison that may have `=` behind its sign, or another operator, behind its blank
unfoldable pub comparison : Reader ℕ COp
comparison =
    either (is 60) (after (codes "<") (either (is 61) (just op.Le (codes "= ")) (just op.Lt (codes " "))))
    (either (is 62) (after (codes ">") (either (is 61) (just op.Ge (codes "= ")) (just op.Gt (codes " "))))
    (either (is 61) (just op.Eq (codes "== "))
    (either (is 33) (just op.Ne (codes "!= "))
    (either (is 38) (just op.And (codes "&& ")) (just op.Or (codes "|| "))))))

-- an operator
unfoldable pub operator_sign : Reader ℕ COp
operator_sign =
    after (codes " ")
    (either (is 43) (just op.Add (codes "+ "))
    (either (is 45) (just op.Sub (codes "- "))
    (either (is 42) (just op.Mul (codes "* "))
    (either (is 47) (just op.Div (codes "/ "))
    (either (is 37) (just op.Rem (codes "% ")) comparison)))))

-- a literal that is not below 0
unfoldable pub int : Reader ℕ Expr
int = mapped (λ n. t.Int (pos n)) (after (codes "INT64_C(") (ended_by (bytes.number (2 ^ 63)) (codes ")")))

-- `true` or `NULL`
unfoldable pub closed : Reader ℕ Expr
closed = either (is 116) (just (t.Truth true) (codes "true")) (just t.Null (codes "NULL"))

-- an expression but a literal that is not below 0, where P reads those but locals and `false`
unfoldable pub unsigned_of : Reader ℕ Expr → Reader ℕ Expr
unsigned_of P = either (is 118) (mapped t.Var local) (either (is 102) (just (t.Truth false) (codes "false")) P)

-- an expression, where P reads those but literals that are not below 0, locals and `false`
unfoldable pub expr_of : Reader ℕ Expr → Reader ℕ Expr
expr_of P = either (is 73) int (unsigned_of P)

-- what stands behind `(-INT64_C(k)`: the least number is a difference, and 0 has no literal of its own
unfoldable pub negative : ℕ → Reader ℕ Expr
negative k =
    if k == 0 then just (t.Neg (t.Int (pos 0))) (codes ")")
    else if k == 9223372036854775807 then either (is 32) (just (t.Int (negsuc 9223372036854775807)) (codes " - INT64_C(1))")) (just (t.Int (negsuc 9223372036854775806)) (codes ")"))
    else just (t.Int (negsuc (k - 1))) (codes ")")

-- what stands behind `(-`
unfoldable pub minus_of : Reader ℕ Expr → Reader ℕ Expr
minus_of P =
    either (is 73) (next (after (codes "INT64_C(") (ended_by (bytes.number (2 ^ 63)) (codes ")"))) negative)
    (mapped t.Neg (ended_by (unsigned_of P) (codes ")")))

-- two operands and what is behind them
unfoldable pub binary_of : Reader ℕ Expr → Reader ℕ Expr
binary_of P = mapped (λ p. t.Bin p.1.0 p.0 p.1.1) (both (expr_of P) (both operator_sign (ended_by (expr_of P) (codes ")"))))

-- what stands behind a bracket
unfoldable pub bracket_of : Reader ℕ Expr → Reader ℕ Expr
bracket_of P =
    either (is 45) (after (codes "-") (minus_of P))
    (either (is 33) (mapped t.Not (after (codes "!") (ended_by (expr_of P) (codes ")")))) (binary_of P))

-- an expression but a literal that is not below 0, a local and `false`, in which brackets nest to n
unfoldable pub plain : ℕ → Reader ℕ Expr
plain zero = closed
plain (suc n) = either (is 40) (after (codes "(") (bracket_of (plain n))) closed

-- an expression
unfoldable pub expr : Reader ℕ Expr
expr = expr_of (plain 128)

-- ---- cells and lists

-- the end of a cell that begins with a local
unfoldable pub cell_behind : Local → Reader ℕ Cell
cell_behind x = either (is 91) (mapped (t.At x) (after (codes "[") (ended_by expr (codes "]")))) (mapped (t.Field x) (after (codes "->m_") name))

-- a cell
unfoldable pub cell : Reader ℕ Cell
cell = either (is 42) (mapped t.Whole (after (codes "*") local)) (next local cell_behind)

-- what F reads and any number of what P reads, with commas between them
unfoldable pub listed : {A : Type 0} → Reader ℕ A → Reader ℕ A → Reader ℕ (List A)
listed F P = next F (λ a. mapped (λ more. a ∷ more) (repeat (is 44) (after (codes ", ") P)))

-- the same with the closing bracket, or that alone
unfoldable pub list_of : {A : Type 0} → Reader ℕ A → Reader ℕ (List A)
list_of P = either (is 41) (just [] (codes ")")) (ended_by (listed P P) (codes ")"))

-- a call behind its `f_`
unfoldable pub call : Reader ℕ (Name × List Expr)
call = both name (after (codes "(") (list_of expr))
