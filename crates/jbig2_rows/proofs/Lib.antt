pub mod GeneratedLists
