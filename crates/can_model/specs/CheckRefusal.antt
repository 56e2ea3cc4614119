-- What a refusal of a database says: its kind with a number and a name.
use Rattle.std.specs.Prelude.{ℕ, List, codes}
use Rattle.can_model.specs.declared.check_kind.CheckKind.{CheckKind}
use Rattle.can_model.specs.declared.check_kind.CheckKind.TheVariants.{DuplicateMessageName, DuplicateMessageId, DuplicateSignalName, FrameIdRange, MessageTooLong, SignalLength, SignalOutside, Overlap, MuxParentUnknown, MuxIdRange, FloatSignal, ScaleTooWide, TooMany, ExtendedMultiplexing, MuxCycle}

-- the number under which reports name a kind
abbrev pub check_number : CheckKind → ℕ
check_number DuplicateMessageName = 10
check_number DuplicateMessageId = 11
check_number DuplicateSignalName = 12
check_number FrameIdRange = 13
check_number MessageTooLong = 14
check_number SignalLength = 15
check_number SignalOutside = 16
check_number Overlap = 17
check_number MuxParentUnknown = 18
check_number MuxIdRange = 19
check_number FloatSignal = 20
check_number ScaleTooWide = 21
check_number TooMany = 22
check_number ExtendedMultiplexing = 23
check_number MuxCycle = 24

-- the name that stands behind the number
abbrev pub check_name : CheckKind → List ℕ
check_name DuplicateMessageName = codes "DuplicateMessageName"
check_name DuplicateMessageId = codes "DuplicateMessageId"
check_name DuplicateSignalName = codes "DuplicateSignalName"
check_name FrameIdRange = codes "FrameIdRange"
check_name MessageTooLong = codes "MessageTooLong"
check_name SignalLength = codes "SignalLength"
check_name SignalOutside = codes "SignalOutside"
check_name Overlap = codes "Overlap"
check_name MuxParentUnknown = codes "MuxParentUnknown"
check_name MuxIdRange = codes "MuxIdRange"
check_name FloatSignal = codes "FloatSignal"
check_name ScaleTooWide = codes "ScaleTooWide"
check_name TooMany = codes "TooMany"
check_name ExtendedMultiplexing = codes "ExtendedMultiplexing"
check_name MuxCycle = codes "MuxCycle"
