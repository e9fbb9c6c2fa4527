mod Silence
mod RepairLemmas
