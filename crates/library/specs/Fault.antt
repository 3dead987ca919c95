-- What a place of a library holds, and the numbers of causes and layers. Assumes nothing.
use Rattle.std.specs.Prelude.{ℕ, ◌+◌, min, List, ◌++◌, Err, codes, decimal, Result}
use Rattle.library.specs.declared.fault.Fault.{Fault}
use Rattle.library.specs.declared.fault.Cause.{Cause}
use Rattle.library.specs.declared.fault.Cause.TheVariants.{BeyondEnd, Unreadable, CheckFailed}

-- a word, or the fault of asking for it
abbrev pub Cell : Type 0
Cell = Result ℕ Fault

-- the number of each cause
abbrev pub cause_number : Cause → ℕ
cause_number BeyondEnd = 1
cause_number Unreadable = 2
cause_number CheckFailed = 3

-- each cause in words
abbrev pub cause_text : Cause → List ℕ
cause_text BeyondEnd = codes "beyond the end"
cause_text Unreadable = codes "unreadable"
cause_text CheckFailed = codes "check failed"

-- a fault in words and numbers
abbrev pub fault_text : Fault → List ℕ
fault_text f =
    codes "layer " ++ (decimal f.layer ++ (codes ", cause " ++ (decimal (cause_number f.cause) ++ (codes " (" ++ (cause_text f.cause ++ (codes "), place " ++ decimal f.place))))))

-- the fault that layer l finds at its place p
abbrev pub fault_at : ℕ → Cause → ℕ → Cell
fault_at l c p = Err (record { layer = l; cause = c; place = p })

-- the number of a layer that stands on layer l
abbrev pub layer_above : ℕ → ℕ
layer_above l = min (l + 1) 255
