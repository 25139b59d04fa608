-- 01, "Kinds (decimal)": the kinds of nodes, in ast.rs order, and their numbers.
-- Assumes nothing.
use Rattle.std.specs.Prelude.{ℕ}

pub data Kind : Type 0 where
  -- `Type`
  Void Int Float Double Ptr Array Named Struct Label Metadata Func : Kind
  -- `Value`, the last three the `ConstExpr` cases
  Local Global IntConst FloatConst Null Undef Poison ZeroInit CStr ArrayConst StructConst GepExpr ConvExpr : Kind
  BinExpr : Kind
  -- `InstKind`
  Bin FBin FNeg Conv ICmp FCmp Select Load Store Alloca Gep Phi Call Freeze AtomicLoad AtomicStore : Kind
  AtomicRmw Cmpxchg ExtractValue Fence : Kind
  -- `Terminator`
  Ret Br Switch Unreachable : Kind
  -- a function's head, a block, a parameter, a name
  Head Block Param Name : Kind

abbrev pub kind : Kind → ℕ
kind Void = 1
kind Int = 2
kind Float = 3
kind Double = 4
kind Ptr = 5
kind Array = 6
kind Named = 7
kind Struct = 8
kind Label = 9
kind Metadata = 10
kind Func = 11
kind Local = 16
kind Global = 17
kind IntConst = 18
kind FloatConst = 19
kind Null = 20
kind Undef = 21
kind Poison = 22
kind ZeroInit = 23
kind CStr = 24
kind ArrayConst = 25
kind StructConst = 26
kind GepExpr = 27
kind ConvExpr = 28
kind BinExpr = 29
kind Bin = 32
kind FBin = 33
kind FNeg = 34
kind Conv = 35
kind ICmp = 36
kind FCmp = 37
kind Select = 38
kind Load = 39
kind Store = 40
kind Alloca = 41
kind Gep = 42
kind Phi = 43
kind Call = 44
kind Freeze = 45
kind AtomicLoad = 46
kind AtomicStore = 47
kind AtomicRmw = 48
kind Cmpxchg = 49
kind ExtractValue = 50
kind Fence = 51
kind Ret = 52
kind Br = 53
kind Switch = 54
kind Unreachable = 55
kind Head = 60
kind Block = 61
kind Param = 62
kind Name = 63
