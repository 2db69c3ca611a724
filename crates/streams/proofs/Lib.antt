pub mod Demanding
