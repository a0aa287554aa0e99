-- Types as the code passes them, and whether two are the same.
use Rattle.std.specs.Prelude.{Bool, true, false, Option, Some, None}
use Rattle.std.specs.Str.{bytes_eq}
use Rattle.c_syntax.specs.declared.kind.CType.{CType}
use Rattle.c_syntax.specs.declared.kind.CType.TheVariants as c
use Rattle.c_rules.specs.declared.kinds.Kind.{Kind}
use Rattle.c_rules.specs.declared.kinds.Kind.TheVariants as k

-- the type that is passed
abbrev pub type : Kind → CType
type k.Void = c.Void
type k.I64 = c.I64
type k.Bool = c.Bool
type k.PtrI64 = c.PtrI64
type k.PtrBool = c.PtrBool
type (k.PtrStruct s) = c.PtrStruct s.now
type k.PtrAtomic = c.PtrAtomic
type k.PtrLock = c.PtrLock

-- whether two types are the same
abbrev pub same_type : CType → CType → Bool
same_type c.Void c.Void = true
same_type c.I64 c.I64 = true
same_type c.Bool c.Bool = true
same_type c.PtrI64 c.PtrI64 = true
same_type c.PtrBool c.PtrBool = true
same_type (c.PtrStruct s) (c.PtrStruct t) = bytes_eq s t
same_type c.PtrAtomic c.PtrAtomic = true
same_type c.PtrLock c.PtrLock = true
same_type _ _ = false

-- the type that is passed, if there is one
abbrev pub types : Option Kind → Option CType
types None = None
types (Some k) = Some (type k)

-- whether a pointer of that type may be null
abbrev pub is_nullable : CType → Bool
is_nullable c.PtrI64 = true
is_nullable c.PtrBool = true
is_nullable (c.PtrStruct s) = true
is_nullable _ = false

-- whether it is a pointer to a block or a lock
abbrev pub is_pointer : CType → Bool
is_pointer c.Void = false
is_pointer c.I64 = false
is_pointer c.Bool = false
is_pointer _ = true
